-- A full synchronization from monitors of one log, from its beginning on: it is under way, or it is finished.
use Rattle.law_names.proofs.Runs.{AllValues}
use Rattle.law_names.proofs.Table.{Body, Course, Input, Me, State, Store, booting, floor_of, readings_of, shared_entries}
use Rattle.log_copies.proofs.Chunks.{ChunkOf}
use Rattle.log_copies.proofs.Copying.{begun}
use Rattle.log_copies.proofs.Events.{BodyOf, InputOf, marked_is, marked_shaped, reacts}
use Rattle.log_copies.proofs.Given.{given}
use Rattle.log_copies.proofs.Shape.{monitor_shaped}
use Rattle.log_copies.proofs.UnderWay.{Marked, Stands}
use Rattle.log_copies.specs.Synchronizing.{InputIsFromLog, IsFromLog, IsGiven, IsShaped, IsSynchronized, Synchronizes, begins, forgets, goes_on, written}
use Rattle.mon_msg.specs.declared.input.Input.TheVariants as input
use Rattle.mon_wire.specs.declared.body.Body.TheVariants as body
use Rattle.std.proofs.Common.{List, arith, false, inl, inr, length, refl, subst, sym, true, ℕ, ◌<◌, ◌^◌, ◌∙◌, ◌≡◌, ◌≤◌}

module _ (log : List (List ℕ)) (fits : length log ≤ 2 ^ 62) (all : AllValues log) (me : Me) (several : 1 < me.member.monitors) (before : Store) (shaped : IsShaped before) where
  chunk_is : (b : Body) → IsGiven log me.member.monitors b → ChunkOf log b
  unfolding readings_of
  chunk_is b G = let P = G.provider in subst (ChunkOf log) (sym G.is) (given log fits all G.last P.within G.store P.folded P.last G.place G.reached G.cookie me.member.monitors)

  of_log : (b : Body) → IsFromLog log me.member.monitors b → BodyOf log b
  of_log (body.Cookie full cookie last) h = h
  of_log (body.Chunk cookie p values entries done) h = chunk_is _ h
  of_log (body.LastChunk cookie p values entries last) h = chunk_is _ h
  of_log other h = tt

  input_of_log : (came : Input) → InputIsFromLog log me.member.monitors came → InputOf log came
  input_of_log (input.Deliver d) h = of_log d.body h
  input_of_log other h = tt

  abbrev floor : ℕ
  floor = floor_of (readings_of before)

  is_marked : (m : Store) (s : State) → Stands log (readings_of before) floor m s → (readings_of m).marked ≡ true → Marked log (readings_of before) floor m s
  is_marked m s (inl M) h = M
  is_marked m s (inr S) h = let g : true ≡ false = sym h ∙ S.unmarked in absurd cc

  forgotten : (m : Store) (s : State) → Stands log (readings_of before) floor m s → Stands log (readings_of before) floor m (booting me.member.rank)
  forgotten m s (inl M) = inl (inr (record {
    in_phase = inr refl;
    noted = marked_is log fits all me several (readings_of before) floor 0 m s M;
    shaped = marked_shaped log fits all me several (readings_of before) floor 0 m s M;
  }))
  forgotten m s (inr S) = inr S

  stands : {m : Store} {s : State} → Synchronizes log me before m s → Stands log (readings_of before) floor m s
  stands (begins now from s x e) =
      subst (λ (z : Course). Stands log (readings_of before) floor (written before z) z.state) e
      (inl (inl (begun log fits all me (readings_of before) floor now from before s (record { last_pn = refl; promise = refl; epoch = refl }) (omega arith) shaped)))
  stands (goes_on m s now came x run h comes e) =
      reacts log fits all me several (readings_of before) floor now m s (is_marked m s (stands run) h) (shared_entries m) came x (input_of_log came comes) e
  stands (forgets m s run) = forgotten m s (stands run)

  -- whenever it breaks off, another one may begin
  pub stays_shaped : (m : Store) (s : State) → Synchronizes log me before m s → IsShaped m
  stays_shaped m s run = by (stands run)
    where
      by : Stands log (readings_of before) floor m s → IsShaped m
      by (inl M) = marked_shaped log fits all me several (readings_of before) floor 0 m s M
      by (inr S) = let V = S.versions in monitor_shaped log fits all S.last V.within m V.folded

  -- once the mark is gone, it is finished
  pub law : (m : Store) (s : State) → Synchronizes log me before m s → (readings_of m).marked ≡ false → IsSynchronized log (readings_of before) (floor_of (readings_of before)) m
  law m s run unmarked = by (stands run)
    where
      by : Stands log (readings_of before) floor m s → IsSynchronized log (readings_of before) floor m
      by (inl M) = let N = marked_is log fits all me several (readings_of before) floor 0 m s M in let g : true ≡ false = sym N.marked ∙ unmarked in absurd cc
      by (inr S) = S
