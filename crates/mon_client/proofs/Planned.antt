-- Plans that write nothing.
use Rattle.std.proofs.Common.{◌≡◌, ℕ, List, [], ◌∷◌, Result, Ok, refl}
use Rattle.mon_msg.specs.Protocol.Course.{Course, ◌▸◌, say, clients_are}
use Rattle.mon_msg.specs.declared.clients.Clients.{Clients}
use Rattle.mon_msg.specs.declared.plan.Arming.{Arming}
use Rattle.mon_msg.specs.declared.plan.Next.TheVariants as next
use Rattle.mon_msg.specs.declared.plan.Next.{Next}
use Rattle.mon_msg.specs.declared.plan.Plan.{Plan}
use Rattle.mon_msg.specs.declared.plan.Sent.{Sent}
use Rattle.mon_msg.specs.declared.view.Me.{Me}
use Rattle.mon_types.specs.declared.names.Which.{Which}
use Rattle.mon_plan.specs.Plans.{done, act, PlansRow}
use Rattle.mon_plan.proofs.Planning.{does_as}

abbrev pub plan_of : List Sent → List Arming → Clients → Next → Plan Clients
plan_of out timers s n = record { tx = []; out = out; timers = timers; state = s; next = n }

module _ (me : Me) (now : ℕ) (B : Course → Type 0) (wanted : Course → Result Course Which) where
  pub plans : (out : List Sent) (timers : List Arming) (s : Clients) (n : Next)
      → ((x : Course) → B x → wanted x ≡ act me now n (done clients_are [] (plan_of out timers s n) x))
      → (p : Plan Clients) → p ≡ plan_of out timers s n → PlansRow me now clients_are B wanted (Ok p)
  plans out timers s n row p e =
      does_as me now clients_are B (λ x. x) wanted [] tt (plan_of out timers s n) refl row p e

  -- someone is answered
  pub answers : (m : Sent) (s : Clients) → ((x : Course) → B x → wanted x ≡ Ok (x ▸ clients_are s ▸ say (m ∷ [])))
      → (p : Plan Clients) → p ≡ plan_of (m ∷ []) [] s next.Stay → PlansRow me now clients_are B wanted (Ok p)
  answers m s row p e = plans (m ∷ []) [] s next.Stay row p e

  -- only clients are remembered otherwise
  pub keeps : (s : Clients) → ((x : Course) → B x → wanted x ≡ Ok (clients_are s x))
      → (p : Plan Clients) → p ≡ plan_of [] [] s next.Stay → PlansRow me now clients_are B wanted (Ok p)
  keeps s row p e = plans [] [] s next.Stay row p e
