-- Arguments ask for at most one task.
use Rattle.std.proofs.Common.{◌≡◌, ℕ, ◌<◌, ◌≤◌, List, [], ◌∷◌, length, Ok, codes, decimal, refl, sym, ap, subst, ◌∙◌, arith}
use Rattle.std.specs.List.{AllByRecursion}
use Rattle.std.proofs.lemmas.Fmt.{decimal_injective}
use Rattle.election_rules.specs.declared.rule.Rule.{Rule}
use Rattle.mon_link.specs.declared.udp.Address.{Address}
use Rattle.mon_types.proofs.Members.{same_member}
use Rattle.mon_types.specs.declared.member.Member.{Member}
use Rattle.schedule_text.specs.Schedule.{rule_of}
use Rattle.schedule_text.specs.Encoding.{RuleFits, rule_text}
use Rattle.schedule_text.proofs.HeaderLaws.{rule_again}
use Rattle.task_words.specs.declared.task.Task.{Task}
use Rattle.task_words.specs.declared.task.Task.TheVariants as task
use Rattle.mon_wire.specs.declared.request.Service.{Service}
use Rattle.mon_wire.specs.declared.request.Service.TheVariants as service
use Rattle.schedule_text.specs.Words.{service_text}
use Rattle.task_words.specs.Addresses.{IsAddress, addresses_text, commas}
use Rattle.task_words.specs.Task.{Asks}
use Rattle.task_words.proofs.TaskKinds.{Fields, kind_of, name_of, of_kind, same_head, same_kind, same_tail, task_by, words_are}
use Rattle.task_words.proofs.AddressLaws.{addresses_read, commas_between}

pub same_rule : (n : ℕ) (r s : Rule) → RuleFits n r → RuleFits n s → rule_text r ≡ rule_text s → r ≡ s
same_rule n r s a b e =
    let same : Ok r ≡ Ok s = sym (rule_again n r a) ∙ ap (rule_of n) e ∙ rule_again n s b in cc

same_addresses : (n : ℕ) (xs ys : List Address) → 0 < n → length xs ≡ n → length ys ≡ n → AllByRecursion IsAddress xs → AllByRecursion IsAddress ys
    → addresses_text xs ≡ addresses_text ys → xs ≡ ys
same_addresses n xs ys some a b each_a each_b e =
    let read_a = addresses_read n (addresses_text xs) xs some a each_a refl in
    let read_b = addresses_read n (addresses_text xs) ys some b each_b e in
    cc

-- of which there are as many as the commas show
addresses_same : (xs ys : List Address) → 1 ≤ length xs → length xs ≤ 15 → 1 ≤ length ys → length ys ≤ 15 → AllByRecursion IsAddress xs → AllByRecursion IsAddress ys
    → addresses_text xs ≡ addresses_text ys → xs ≡ ys
addresses_same xs ys some few some' few' each each' e =
    let counts : length xs ≡ length ys =
    omega (arith, commas_between xs some each, commas_between ys some' each', ap commas e) in
    same_addresses (length ys) xs ys (omega arith) counts refl each each' e

pub same_service : (s t : Service) → service_text s ≡ service_text t → s ≡ t
same_service service.Kv service.Kv e = refl
same_service service.Kv service.Log e = absurd cc
same_service service.Log service.Kv e = absurd cc
same_service service.Log service.Log e = refl

-- two members with the same arguments
members : (m n : Member) → decimal m.rank ≡ decimal n.rank → decimal m.monitors ≡ decimal n.monitors → m ≡ n
members m n ranks counts =
    let rank : m.rank ≡ n.rank = decimal_injective m.rank n.rank (omega (arith, m.most, m.in_map)) (omega (arith, n.most, n.in_map)) ranks in
    let count : m.monitors ≡ n.monitors = decimal_injective m.monitors n.monitors (omega (arith, m.most)) (omega (arith, n.most)) counts in
    same_member m n rank count

-- ---- the texts of two tasks of one kind, part by part

-- the texts of two commands on a store
pub record SameStore (a b c d a' b' c' d' : List ℕ) : Type 0 where
  pub ranks : a ≡ a'
  pub counts : b ≡ b'
  pub disks_a : c ≡ c'
  pub disks_b : d ≡ d'

pub store_by_text : (a b c d a' b' c' d' : List ℕ) → ◌≡◌ {A = List (List ℕ)} (a ∷ b ∷ c ∷ d ∷ []) (a' ∷ b' ∷ c' ∷ d' ∷ []) → SameStore a b c d a' b' c' d'
store_by_text a b c d a' b' c' d' same = record { ranks = cc; counts = cc; disks_a = cc; disks_b = cc }

-- the texts of two nodes
pub record SameNode (a b c d e f g a' b' c' d' e' f' g' : List ℕ) : Type 0 where
  pub ranks : a ≡ a'
  pub counts : b ≡ b'
  pub rules : c ≡ c'
  pub all_addresses : d ≡ d'
  pub disks_a : e ≡ e'
  pub disks_b : f ≡ f'
  pub all_turns : g ≡ g'

pub node_by_text : (a b c d e f g a' b' c' d' e' f' g' : List ℕ)
    → ◌≡◌ {A = List (List ℕ)} (a ∷ b ∷ c ∷ d ∷ e ∷ f ∷ g ∷ []) (a' ∷ b' ∷ c' ∷ d' ∷ e' ∷ f' ∷ g' ∷ [])
    → SameNode a b c d e f g a' b' c' d' e' f' g'
node_by_text a b c d e f g a' b' c' d' e' f' g' same = record {
  ranks = cc;
  counts = cc;
  rules = cc;
  all_addresses = cc;
  disks_a = cc;
  disks_b = cc;
  all_turns = cc;
}

-- the texts of two dumps of versions
pub record SameVersions (a b c d e f a' b' c' d' e' f' : List ℕ) : Type 0 where
  pub ranks : a ≡ a'
  pub counts : b ≡ b'
  pub disks_a : c ≡ c'
  pub disks_b : d ≡ d'
  pub firsts : e ≡ e'
  pub lasts : f ≡ f'

pub versions_by_text : (a b c d e f a' b' c' d' e' f' : List ℕ) → ◌≡◌ {A = List (List ℕ)} (a ∷ b ∷ c ∷ d ∷ e ∷ f ∷ []) (a' ∷ b' ∷ c' ∷ d' ∷ e' ∷ f' ∷ [])
    → SameVersions a b c d e f a' b' c' d' e' f'
versions_by_text a b c d e f a' b' c' d' e' f' same = record { ranks = cc; counts = cc; disks_a = cc; disks_b = cc; firsts = cc; lasts = cc }

-- ---- tasks of one kind

same_store : (make : Member → List ℕ → List ℕ → Task) (m n : Member) (a b c d : List ℕ)
    → ◌≡◌ {A = List (List ℕ)} (decimal m.rank ∷ decimal m.monitors ∷ a ∷ b ∷ []) (decimal n.rank ∷ decimal n.monitors ∷ c ∷ d ∷ []) → make m a b ≡ make n c d
same_store make m n a b c d same =
    let w = store_by_text _ _ _ _ _ _ _ _ same in
    let member = members m n w.ranks w.counts in
    (λ i. make (member i) (w.disks_a i) (w.disks_b i))

same_node : (m n : Member) (r s : Rule) (xs ys : List Address) (a b c d : List ℕ) (t u : ℕ) (words : List (List ℕ))
    → Asks (task.Node m r xs a b t) words → Asks (task.Node n s ys c d u) words → task.Node m r xs a b t ≡ task.Node n s ys c d u
same_node m n r s xs ys a b c d t u words x y =
    let w = node_by_text _ _ _ _ _ _ _ _ _ _ _ _ _ _ (same_tail _ _ _ _ (sym x.are ∙ y.are)) in
    let member : m ≡ n = members m n w.ranks w.counts in
    let counts : m.monitors ≡ n.monitors = ap (λ (k : Member). k.monitors) member in
    let rule : r ≡ s = same_rule m.monitors r s x.has.0 (subst (λ (k : ℕ). RuleFits k s) (sym counts) y.has.0) w.rules in
    let addresses : xs ≡ ys =
    same_addresses m.monitors xs ys (omega (arith, m.in_map)) x.has.1 (y.has.1 ∙ sym counts) x.has.2 y.has.2 w.all_addresses in
    let turns : t ≡ u = decimal_injective t u (omega (arith, x.has.4)) (omega (arith, y.has.4)) w.all_turns in
    (λ i. task.Node (member i) (rule i) (addresses i) (w.disks_a i) (w.disks_b i) (turns i))

same_follow : (s t : Service) (xs ys : List Address) (n k : ℕ) (words : List (List ℕ)) → Asks (task.Follow s xs n) words → Asks (task.Follow t ys k) words
    → task.Follow s xs n ≡ task.Follow t ys k
same_follow s t xs ys n k words x y =
    let both : codes "follow" ∷ service_text s ∷ addresses_text xs ∷ decimal n ∷ [] ≡ codes "follow" ∷ service_text t ∷ addresses_text ys ∷ decimal k ∷ [] = sym x.are ∙ y.are in
    let service : s ≡ t = same_service s t cc in
    let texts : addresses_text xs ≡ addresses_text ys = cc in
    let addresses : xs ≡ ys = addresses_same xs ys x.has.0 x.has.1 y.has.0 y.has.1 x.has.2 y.has.2 texts in
    let turns : n ≡ k = decimal_injective n k (omega (arith, x.has.4)) (omega (arith, y.has.4)) cc in
    (λ i. task.Follow (service i) (addresses i) (turns i))

same_versions : (m n : Member) (a b c d : List ℕ) (f g t u : ℕ) (words : List (List ℕ)) → Asks (task.DumpPaxos m a b f t) words → Asks (task.DumpPaxos n c d g u) words
    → task.DumpPaxos m a b f t ≡ task.DumpPaxos n c d g u
same_versions m n a b c d f g t u words x y =
    let w = versions_by_text _ _ _ _ _ _ _ _ _ _ _ _ (same_tail _ _ _ _ (sym x.are ∙ y.are)) in
    let member : m ≡ n = members m n w.ranks w.counts in
    let firsts : f ≡ g = decimal_injective f g (omega (arith, x.has.0, x.has.1)) (omega (arith, y.has.0, y.has.1)) w.firsts in
    let lasts : t ≡ u = decimal_injective t u (omega (arith, x.has.1)) (omega (arith, y.has.1)) w.lasts in
    (λ i. task.DumpPaxos (member i) (w.disks_a i) (w.disks_b i) (firsts i) (lasts i))

-- a task, and another of its kind
same_by : (t : Task) (f : Fields (kind_of t)) (words : List (List ℕ)) → Asks t words → Asks (task_by (kind_of t) f) words → t ≡ task_by (kind_of t) f
same_by task.Replay f words x y = refl
same_by (task.Made n e) f words x y =
    let both : codes "made" ∷ decimal n ∷ decimal e ∷ [] ≡ codes "made" ∷ decimal f.0 ∷ decimal f.1 ∷ [] = sym x.are ∙ y.are in
    let first : n ≡ f.0 = decimal_injective n f.0 (omega (arith, x.has.0)) (omega (arith, y.has.0)) cc in
    let second : e ≡ f.1 = decimal_injective e f.1 (omega (arith, x.has.2)) (omega (arith, y.has.2)) cc in
    (λ i. task.Made (first i) (second i))
same_by (task.Node m r xs a b n) f words x y = same_node m f.0 r f.1 xs f.2 a b f.3 f.4 n f.5 words x y
same_by (task.Follow s xs n) f words x y = same_follow s f.0 xs f.1 n f.2 words x y
same_by (task.Scrub m a b) f words x y = same_store (λ m a b. task.Scrub m a b) m f.0 a b f.1 f.2 (same_tail _ _ _ _ (sym x.are ∙ y.are))
same_by task.ScrubCompare f words x y = refl
same_by (task.DumpKeys m a b) f words x y = same_store (λ m a b. task.DumpKeys m a b) m f.0 a b f.1 f.2 (same_tail _ _ _ _ (sym x.are ∙ y.are))
same_by (task.DumpPaxos m a b from to) f words x y = same_versions m f.0 a b f.1 f.2 from f.3 to f.4 words x y
same_by (task.StoreExport m a b) f words x y = same_store (λ m a b. task.StoreExport m a b) m f.0 a b f.1 f.2 (same_tail _ _ _ _ (sym x.are ∙ y.are))
same_by (task.StoreImport m a b) f words x y = same_store (λ m a b. task.StoreImport m a b) m f.0 a b f.1 f.2 (same_tail _ _ _ _ (sym x.are ∙ y.are))

pub same_task : (t u : Task) (words : List (List ℕ)) → Asks t words → Asks u words → t ≡ u
same_task t u words x y =
    let names : name_of t ≡ name_of u = same_head _ _ _ _ (sym (words_are t) ∙ sym x.are ∙ y.are ∙ words_are u) in
    let it = of_kind (kind_of t) u (same_kind t u names) in
    same_by t it.0 words x (subst (λ (v : Task). Asks v words) it.1 y) ∙ sym it.1
