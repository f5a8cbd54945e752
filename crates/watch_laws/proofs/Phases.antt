-- Phases that tests name, and bodies of messages that definitions choose.
use Rattle.law_names.proofs.Table.{Body, Cell, Cookie, Entry, Phase, Place as ChunkPlace, Readings, answer_of, chunk, given_entries, given_values, is_complete, is_even, is_finished, is_member, last_answer, pending, promise_of, reach, same_phase, sent_values, told_of, votes}
use Rattle.mon_decode.specs.Headers.{kind_in}
use Rattle.mon_watch.specs.Seen.{shown as shown_in}
use Rattle.mon_wire.specs.declared.body.Body.TheVariants as body
use Rattle.mon_wire.specs.declared.phase.Phase.TheVariants as phase
use Rattle.quorum_history.proofs.Phases.{no}
use Rattle.std.proofs.Common.{List, None, Some, ap, arith, false, inl, inr, ltb, refl, true, ℕ, ◌&&◌, ◌||◌, ◌∙◌, ◌≡◌, ◌⊎◌}
use Rattle.std.proofs.lemmas.Bool.{cond_both, ltb-false}

-- ---- phases that tests name

pub accepted_is : (p : Phase) → (same_phase p phase.Previous || (same_phase p phase.Updating || false)) ≡ true → (p ≡ phase.Previous) ⊎ (p ≡ phase.Updating)
accepted_is phase.Previous e = inl refl
accepted_is phase.Updating e = inr refl
accepted_is phase.Booting e = no e
accepted_is phase.Probing e = no e
accepted_is phase.Synchronizing e = no e
accepted_is phase.Electing e = no e
accepted_is phase.Collecting e = no e
accepted_is phase.Active e = no e
accepted_is phase.Peon e = no e

-- a monitor that votes and is in no quorum elects
pub votes_electing : (p : Phase) → votes p ≡ true → (is_member p ≡ true → ⊥) → p ≡ phase.Electing
votes_electing phase.Electing t out = refl
votes_electing phase.Booting t out = no t
votes_electing phase.Probing t out = no t
votes_electing phase.Synchronizing t out = no t
votes_electing phase.Collecting t out = absurd (out refl)
votes_electing phase.Previous t out = absurd (out refl)
votes_electing phase.Active t out = absurd (out refl)
votes_electing phase.Updating t out = absurd (out refl)
votes_electing phase.Peon t out = absurd (out refl)

pub same_parity : (a b : ℕ) → ltb a b ≡ false → ltb b a ≡ false → is_even a ≡ false → is_even b ≡ false
same_parity a b low high odd = let x = ltb-false a b low in let y = ltb-false b a high in ap is_even (let e : b ≡ a = omega arith in e) ∙ odd

-- ---- messages that show no phase, and the answer to a leader that collects

pub chunk_silent : (last : ℕ) (c : Cookie) (p : ChunkPlace) (left : List Entry) (n : ℕ) (records : ℕ → Cell) → shown_in (kind_in (chunk last c p left n records)) ≡ None
unfolding chunk
chunk_silent last c p left n records =
    let values = given_values last c p left n records in
    let es = given_entries last c p left n values in
    cond_both (reach last p values && is_finished p left es) (body.LastChunk c p values es last) (body.Chunk c p values es (is_finished p left es)) (λ (b : Body). shown_in (kind_in b) ≡ None) (λ t. refl) (λ t. refl)

pub answer_is : (n : ℕ) (r : Readings) (from : ℕ) → shown_in (kind_in (last_answer n r from)) ≡ Some phase.Peon
unfolding answer_of
answer_is n r from =
    let told = sent_values n (promise_of r) r.first r.last r.record_of from in
    cond_both (is_complete n (promise_of r) r.first r.last from told (told_of (pending r))) (body.Last (promise_of r) r.first r.last true from told (told_of (pending r))) (body.Last (promise_of r) r.first r.last false from told None) (λ (b : Body). shown_in (kind_in b) ≡ Some phase.Peon) (λ t. refl) (λ t. refl)
