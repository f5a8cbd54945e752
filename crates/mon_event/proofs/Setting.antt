-- Timers are set one after the other.
use Rattle.std.proofs.Common.{◌≡◌, ℕ, ◌+◌, ◌≤◌, ◌<◌, Bool, List, ◌∷◌, length, drop, get_or, Option, sym, ap, ◌∙◌}
use Rattle.std.proofs.lemmas.List.{drop_more, drop_all}
use Rattle.mon_msg.specs.declared.plan.Arming.{Arming}
use Rattle.mon_plan.specs.Plans.{armed_as, all_armed}

pub set_next : (waits : Bool) (armings : List Arming) (i : ℕ) (a : Arming) (ts : List (Option ℕ)) → i < length armings → a ≡ get_or armings i a
    → all_armed waits (drop (i + 1) armings) (armed_as waits a ts) ≡ all_armed waits (drop i armings) ts
set_next waits armings i a ts within is =
    sym (ap (λ (l : List Arming). all_armed waits l ts) (drop_more armings i a within ∙ ap (λ (y : Arming). y ∷ drop (i + 1) armings) (sym is)))

pub set_end : (waits : Bool) (armings : List Arming) (i : ℕ) (ts : List (Option ℕ)) → length armings ≤ i → all_armed waits (drop i armings) ts ≡ ts
set_end waits armings i ts past = ap (λ (l : List Arming). all_armed waits l ts) (drop_all i armings past)
