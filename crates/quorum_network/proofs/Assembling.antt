-- What an assembly keeps and answers, and how letters are cut and numbered.
use Rattle.law_names.proofs.Table.{AllByRecursion, Contains}
use Rattle.quorum_network.proofs.Letters.{AreLetters, IsFed, IsLong, IsPosted, IsRight, Letter, labelled}
use Rattle.quorum_network.proofs.Names.{Outgoing, Partial, Peer, answer_in, datagrams, kept_in, next_after, posted, taken}
use Rattle.std.proofs.Common.{List, [], map, ℕ, ◌++◌, ◌<◌, ◌≡◌, ◌≤◌}

-- what a monitor sends in one reaction, cut
pub record IsLabelled (i boot next : ℕ) (outs : List Outgoing) (ls : List Letter) : Type 0 where
  pub by : (l : Letter) → Contains ls l → (l.by ≡ i) × (l.boot ≡ boot) × (next ≤ l.seq) × (l.seq ≤ next_after next outs)
  pub long : (l : Letter) → Contains ls l → IsLong l → l.seq < next_after next outs
  pub once : (l k : Letter) → Contains ls l → Contains ls k → IsLong l → IsLong k → l.seq ≡ k.seq → (l.to ≡ k.to) × (l.bytes ≡ k.bytes)
  pub up : next ≤ next_after next outs

-- an assembly of monitor i, fed with datagrams of letters
pub record Assembly : Type 1 where
  -- what it keeps are parts of letters
  pub Keeps : List Letter → ℕ → List Partial → Type 0
  pub nothing : (ls : List Letter) (i : ℕ) → Keeps ls i []
  pub more : (ls ks : List Letter) (i : ℕ) (parts : List Partial) → Keeps ls i parts → Keeps (ls ++ ks) i parts
  pub takes : (ls : List Letter) (i : ℕ) (parts : List Partial) (from : Peer) (bytes : List ℕ) → AreLetters ls → Keeps ls i parts → IsFed ls i from bytes
      → Keeps ls i (kept_in parts (taken parts from bytes)) × IsRight ls i from (answer_in (taken parts from bytes))
  -- and what is sent is cut and numbered
  pub labels : (i boot next : ℕ) (outs : List Outgoing) → IsLabelled i boot next outs (labelled i boot next outs)
  pub pieces : (i boot next : ℕ) (outs : List Outgoing) → AllByRecursion (IsPosted (labelled i boot next outs)) (map (posted i) (datagrams boot next outs))
