-- What a monitor sends that neither calls an election nor acknowledges a call.
use Rattle.law_names.proofs.Table.{Body, Cookie, Entry, Place, Readings, Sent, chunk, epoch_of, given_entries, given_values, is_finished, reach}
use Rattle.mon_msg.specs.declared.plan.Sent.TheVariants as sent
use Rattle.mon_wire.specs.declared.body.Body.TheVariants as body
use Rattle.quorum_timed.specs.Calls.{IsCall}
use Rattle.std.proofs.Common.{List, subst, ℕ, ◌&&◌, ◌≡◌}
use Rattle.std.proofs.lemmas.Bool.{cond_both}
use Rattle.timed_election.specs.Joining.{LeavesStores}

module _ (w : Readings) where
  -- Neither a call nor an acknowledgement, and it changes no store of a peon. A reply to a probe has the versions that are
  -- kept.
  abbrev pub IsPlain : Body → Type 0
  IsPlain (body.Propose table) = ⊥
  IsPlain body.Ack = ⊥
  IsPlain (body.ProbeReply quorum first last) = (first ≡ w.first) × (last ≡ w.last)
  IsPlain (body.Collect pn first last) = ⊥
  IsPlain (body.Begin pn v value) = ⊥
  IsPlain (body.Commit from values) = ⊥
  IsPlain other = Unit {0}

  pub no_call : (b : Body) → IsPlain b → IsCall b → ⊥
  no_call (body.Propose table) p k = p
  no_call other p k = k

  pub no_ack : (b : Body) → IsPlain b → b ≡ body.Ack → ⊥
  no_ack b p is = subst IsPlain is p

  pub leaves_stores : (b : Body) → IsPlain b → LeavesStores b
  leaves_stores (body.Collect pn first last) p = p
  leaves_stores (body.Begin pn v value) p = p
  leaves_stores (body.Commit from values) p = p
  leaves_stores other p = tt

  -- a chunk calls nobody
  pub plain_chunk : (n : ℕ) (c : Cookie) (p : Place) (left : List Entry) → IsPlain (chunk w.last c p left n w.record_of)
  unfolding chunk
  plain_chunk n c p left =
      let values = given_values w.last c p left n w.record_of in
      let entries = given_entries w.last c p left n values in
      cond_both (reach w.last p values && is_finished p left entries) (body.LastChunk c p values entries w.last) (body.Chunk c p values entries (is_finished p left entries)) IsPlain (λ _. tt) (λ _. tt)

  -- a reply to a client, or such a message of monitor i in its epoch
  abbrev pub IsQuiet : (i : ℕ) → Sent → Type 0
  IsQuiet i (sent.Message to m) = (m.from ≡ i) × (m.epoch ≡ epoch_of w) × IsPlain m.body
  IsQuiet i (sent.Reply to r) = Unit {0}
