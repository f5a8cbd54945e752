-- The laws of the one log, of any number of monitors.
use Rattle.law_names.proofs.Runs.{Agree, AllFit, AllValues, Envelope, Event, Monitors, is_marked, run}
use Rattle.law_names.proofs.Table.{Contains, entry}
use Rattle.log_model.proofs.Lists.{of_all}
use Rattle.quorum_agreement.proofs.Invariant.{EnvelopeMatches}
use Rattle.quorum_agreement.proofs.Result.{OneLog, agree, copying as copies, entries_chosen, lone_log, marked_if_full, several_log, tells}
use Rattle.quorum_agreement.proofs.Runs.{lone_grow, lone_run, several_grow, several_run}
use Rattle.quorum_agreement.specs.Copying.{IsCopying, MarkedIfFull}
use Rattle.quorum_agreement.specs.Growing.{GrowsBy}
use Rattle.quorum_agreement.specs.Matching.{MatchesLog}
use Rattle.quorum_laws.proofs.Events.{all_runs}
use Rattle.quorum_laws.specs.Values.{IsChosen}
use Rattle.std.proofs.Common.{List, arith, inl, inr, length, suc, sym, true, ℕ, ◌++◌, ◌<◌, ◌^◌, ◌≡◌, ◌≤◌, ◌⊎◌}
use Rattle.std.proofs.lemmas.Bool.{cases_order}

one_log : (ms : Monitors) (events : List Event) → AllFit ms.count events → OneLog ms (run ms events)
one_log ms events F = by (cases_order 1 ms.count)
  where
    by : (1 ≡ ms.count) ⊎ ((1 < ms.count) ⊎ (ms.count < 1)) → OneLog ms (run ms events)
    by (inl e) = lone_log ms (run ms events) (lone_run ms (sym e) events F)
    by (inr (inl more)) = several_log ms (run ms events) (several_run ms (λ i lt. more) events F)
    by (inr (inr none)) = several_log ms (run ms events) (several_run ms (λ i lt. absurd (omega arith)) events F)

pub agrees : (ms : Monitors) (events : List Event) → AllFit ms.count events → Agree ms.count (run ms events)
agrees ms events F = agree ms (run ms events) (one_log ms events F)

pub grows : (ms : Monitors) (before after : List Event) → AllFit ms.count (before ++ after) → GrowsBy (length after) (run ms before).log (run ms (before ++ after)).log
grows ms before after F = by (cases_order 1 ms.count)
  where
    by : (1 ≡ ms.count) ⊎ ((1 < ms.count) ⊎ (ms.count < 1)) → GrowsBy (length after) (run ms before).log (run ms (before ++ after)).log
    by (inl e) = lone_grow ms (sym e) before after F
    by (inr (inl more)) = several_grow ms (λ i lt. more) before after F
    by (inr (inr none)) = several_grow ms (λ i lt. absurd (omega arith)) before after F

pub all_values : (ms : Monitors) (events : List Event) → AllFit ms.count events → (length (run ms events).log ≤ 2 ^ 62) × AllValues (run ms events).log
all_values ms events F = let L = one_log ms events F in (L.short, L.values)

pub chosen : (ms : Monitors) (events : List Event) → AllFit ms.count events → 1 < ms.count → (v : ℕ) → v < length (run ms events).log → IsChosen ms.count (run ms events) (suc v) (entry (run ms events).log (suc v))
chosen ms events F several v lt = let h = several_run ms (λ i k. several) events F in entries_chosen ms (run ms events) h.0 h.1 v lt

pub told : (ms : Monitors) (events : List Event) → AllFit ms.count events → (e : Envelope) → Contains (run ms events).messages e → MatchesLog (run ms events).log e.message.body
told ms events F e c = let L = one_log ms events F in tells (run ms events).log e.message.body (of_all (EnvelopeMatches (run ms events).log) (run ms events).messages L.sent e c)

pub copying : (ms : Monitors) (events : List Event) → AllFit ms.count events → (i : ℕ) → i < ms.count → is_marked ((run ms events).store i) ≡ true → IsCopying (run ms events).log ((run ms events).store i) ((run ms events).state i)
copying ms events F i lt t = copies ms (run ms events) (one_log ms events F) (all_runs ms events F) i lt t

pub full : (ms : Monitors) (events : List Event) → AllFit ms.count events → (i : ℕ) → MarkedIfFull ((run ms events).store i) ((run ms events).state i)
full ms events F i = marked_if_full ms (run ms events) (all_runs ms events F) i
