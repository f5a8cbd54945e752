-- A timed run in which no client writes goes on from a run of events, so what holds after every run holds at its end.
use Rattle.law_names.proofs.Runs.{Arrives, Event, Monitors, Plain, PlainFits, Reached, RequestFits, happens}
use Rattle.law_names.proofs.Table.{AllByRecursion, Request, has}
use Rattle.mon_wire.specs.declared.request.Request.TheVariants as request
use Rattle.quorum_model.proofs.Reached.{reached_next}
use Rattle.quorum_stays.specs.Reading.{Reads}
use Rattle.quorum_stays.specs.Serving.{Writes}
use Rattle.quorum_timed.specs.Timed.{Again, Arriving, Asking, Comes, Firing, Leads, Pace, Timed, at_time}
use Rattle.std.proofs.Common.{Bool, List, Ok, [], subst, sym, true, ℕ, ◌<◌, ◌∷◌, ◌≡◌}

reads_fit : (r : Request) → ((Reads r → ⊥) → ⊥) → RequestFits r
reads_fit (request.Show service) h = tt
reads_fit (request.Since service version) h = tt
reads_fit other h = absurd (h (λ k. k))

module _ (ms : Monitors) where
  module _ (q : List Bool) (pace : Pace) (within : (i : ℕ) → has q i ≡ true → i < ms.count) where
    one_more : (t next : Timed) (e : Event) (p : Plain) → e ≡ Arrives p → PlainFits ms.count p → happens ms t.world e ≡ Ok next.world → Reached ms t.world → Reached ms next.world
    one_more t next e p is F h R = reached_next ms t.world next.world (Arrives p) F (subst (λ (z : Event). happens ms t.world z ≡ Ok next.world) is h) R

    comes_reached : (t next : Timed) (e : Event) → Comes ms q pace t next e → (Writes e → ⊥) → Reached ms t.world → Reached ms next.world
    comes_reached t next e (Arriving f i qf qi o others first is went) calm R = one_more t next e _ is tt went.happened R
    comes_reached t next e (Again f i qf qi k calls is went) calm R = one_more t next e _ is tt went.happened R
    comes_reached t next e (Firing i qi s up kind end set due is went) calm R = one_more t next e _ is (within i qi) went.happened R
    comes_reached t next e (Asking i qi session request is went) calm R = one_more t next e _ is (within i qi, reads_fit request (subst (λ (z : Event). Writes z → ⊥) is calm)) went.happened R

    pub reached_on : (more : List (ℕ × Event)) (t last : Timed) → AllByRecursion (λ m. Writes m.1 → ⊥) more → Reached ms t.world → Leads ms q pace t more last → Reached ms last.world
    reached_on [] t last calm R L = subst (λ (z : Timed). Reached ms z.world) (sym L.1) R
    reached_on ((u, e) ∷ more) t last calm R L = reached_on more L.1.0 last calm.1 (comes_reached (at_time ms q pace u t) L.1.0 e L.1.1 calm.0 R) L.1.2
