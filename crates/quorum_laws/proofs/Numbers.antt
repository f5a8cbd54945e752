-- What is known of promises in every run.
use Rattle.law_names.proofs.Runs.{Monitors, World}
use Rattle.law_names.proofs.Table.{AllByRecursion, Body, Op, Told, is_done, or_zero, promise_of, value}
use Rattle.mon_wire.specs.declared.body.Body.TheVariants as body
use Rattle.quorum_history.proofs.History as history
use Rattle.quorum_history.proofs.History.{ANumber, APromise}
use Rattle.quorum_history.proofs.Holds.{BodyHolds, Disk}
use Rattle.quorum_history.proofs.Numbers.{floor_is}
use Rattle.quorum_history.proofs.Runs.{pending_cases}
use Rattle.quorum_laws.proofs.Invariant.{InvOf}
use Rattle.quorum_laws.proofs.Reading.{accepted_as, as_accepted, at_least, sent_fine, sent_holds}
use Rattle.quorum_laws.specs.Accepting.{HasAccepted, readings_at}
use Rattle.quorum_laws.specs.Promises.{AllNumbersRise, AllRemember, AnswerCovers, AnswersCover, CarriesValues, CollectHolds, IsSomeValue, NumbersHold, PromiseHolds, Remembers, RemembersIn, ValuesAlone}
use Rattle.quorum_walk.proofs.FineCourses.{BodyFine, ToldFine, Val}
use Rattle.quorum_walk.proofs.FineReading.{record_fine}
use Rattle.quorum_walk.proofs.Lists.{all_map}
use Rattle.quorum_walk.proofs.Sparing.{own_of}
use Rattle.std.proofs.Common.{Bool, IfSome, List, None, Option, Some, arith, false, inl, inr, refl, subst, suc, sym, true, ℕ, ◌%◌, ◌≡◌, ◌≤◌}

module _ (ms : Monitors) (w : World) (I : InvOf ms w) where
  collect_holds : (from to e : ℕ) (b : Body) → BodyHolds I.g from to e b → CollectHolds w from b
  collect_holds from to e (body.Collect pn first last) k = (k.0, at_least ms w I ANumber from pn k.1)
  collect_holds from to e other k = tt

  promise_holds : (from to e : ℕ) (b : Body) → BodyHolds I.g from to e b → PromiseHolds w from b
  promise_holds from to e (body.Last pn first last whole lowest values told) k = at_least ms w I APromise from pn k.promised
  promise_holds from to e (body.Accept pn v) k = at_least ms w I APromise from pn k.0
  promise_holds from to e other k = tt

  accepted_low : (i v pn : ℕ) (bytes : List ℕ) → HasAccepted w i v pn bytes → pn ≤ promise_of (readings_at w i)
  accepted_low i v pn bytes a = let k = accepted_as ms w I i v pn bytes a in (I.mine i).disk.kept.accepts v pn k.0 k.2

  by_owner : (i v pn : ℕ) (bytes : List ℕ) → HasAccepted w i v pn bytes → HasAccepted w (pn % 100) v pn bytes × (pn ≤ or_zero (readings_at w (pn % 100)).last_pn)
  by_owner i v pn bytes a =
      let k = accepted_as ms w I i v pn bytes a in
      let o = I.glob.triples.owner i v pn k.0 k.2 in
      (subst (HasAccepted w (pn % 100) v pn) (sym k.1) (as_accepted ms w I (pn % 100) v pn k.0 o), (I.mine (pn % 100)).disk.kept.made i v pn k.0 k.2 refl)

  pub numbers_hold : NumbersHold w
  numbers_hold = record {
    collects = λ e c. collect_holds e.message.from e.to e.message.epoch e.message.body (sent_holds ms w I e c).body;
    promises = λ e c. promise_holds e.message.from e.to e.message.epoch e.message.body (sent_holds ms w I e c).body;
    own = λ i. (I.mine i).disk.kept.mine;
    order = λ i. (I.mine i).disk.kept.order;
    pending = λ i. (I.mine i).disk.kept.under;
    accepted = accepted_low;
    owner = by_owner;
  }

  pub numbers_rise : AllNumbersRise w
  numbers_rise i = I.raised i

  -- ---- what was accepted is not forgotten

  remembers : (i v pn : ℕ) (x : List Op) → history.Accepted I.g i v pn x → Remembers (readings_at w i) v pn
  remembers i v pn x a = by (readings_at w i).marked refl
    where
      D : Disk I.g i (own_of (readings_at w i)) (readings_at w i).record_of
      D = (I.mine i).disk

      by : (b : Bool) → (readings_at w i).marked ≡ b → RemembersIn b (readings_at w i) v pn
      by true u = elim (D.kept.covered v pn x a) [
        | inl s ↦ (let f = floor_is (own_of (readings_at w i)) u in omega arith)
        | inr c ↦ (let z = (D.kept.clear u).1 in let one = I.glob.triples.some i v pn x a in let e = c.0 in absurd (omega arith))
      ]
      by false u = elim (pending_cases ms.count I.g i (own_of (readings_at w i)) (readings_at w i).record_of I.glob D u) [
        | inl k ↦ inl (k.covers v pn x a)
        | inr k ↦ elim (k.covers v pn x a) [
          | inl s ↦ inl s
          | inr c ↦ inr (record { found = record { version = suc (readings_at w i).last; pn = (readings_at w i).pending_pn; value = k.x }; is = k.some; version = sym c.0; number = c.1 })
        ]
      ]

  pub all_remember : AllRemember w
  all_remember i v pn bytes a = let k = accepted_as ms w I i v pn bytes a in remembers i v pn k.0 k.2

  -- ---- answers

  answer_covers : (from to e : ℕ) (b : Body) → BodyHolds I.g from to e b → AnswerCovers w from b
  answer_covers from to e (body.Last pn first last true lowest values told) k = λ v lower bytes a lt.
      let t = accepted_as ms w I from v lower bytes a in
      elim (k.covers refl v lower t.0 t.2 lt) [ inl s ↦ inl s | inr c ↦ inr (record { next = c.0; value = c.1; tells = c.2; number = c.3 }) ]
  answer_covers from to e other k = tt

  pub answers_cover : AnswersCover w
  answers_cover e c = answer_covers e.message.from e.to e.message.epoch e.message.body (sent_holds ms w I e c).body

  -- ---- values

  some_value : (x : List Op) → Val x → IsSomeValue x
  some_value x V = record { over = V.over; command = V.command; form = V.form; asked = V.asked; rank = V.rank; made = V.made }

  some_values : (xs : List (List Op)) → AllByRecursion Val xs → AllByRecursion IsSomeValue xs
  some_values xs V = all_map Val IsSomeValue some_value xs V

  told_value : (t : Option Told) → ToldFine t → IfSome t (λ t. IsSomeValue t.value)
  told_value None V = tt
  told_value (Some t) V = some_value t.value V

  carries : (b : Body) → BodyFine b → CarriesValues b
  carries (body.Last pn first last whole lowest values told) V = (some_values values V.0, told_value told V.1)
  carries (body.Begin pn v value) V = some_value value V.2
  carries (body.Commit lowest values) V = some_values values V
  carries (body.Chunk c p values entries is_done) V = some_values values V.0
  carries (body.LastChunk c p values entries last) V = some_values values V.0
  carries other V = tt

  pub values_alone : ValuesAlone w
  values_alone = record {
    messages = λ e c. carries e.message.body (sent_fine ms w I e c).1;
    records = λ i v x e. some_value x (record_fine (readings_at w i).record_of (I.mine i).fine.records v x e);
  }
