-- What a monitor sends that hands no command on, and what refuses none.
use Rattle.law_names.proofs.Table.{AllByRecursion, Body, Sent, Session}
use Rattle.mon_msg.specs.declared.plan.Sent.TheVariants as sent
use Rattle.mon_wire.specs.declared.body.Body.TheVariants as body
use Rattle.quorum_commands.specs.Unmade.{AcknowledgesNone}
use Rattle.std.proofs.Common.{List}
use Rattle.table_walk.proofs.Lists.{all_map}

-- no command is handed on, and only an acknowledgement is handed back
abbrev pub HandsNone : Body → Type 0
HandsNone (body.Forward seq c) = ⊥
HandsNone (body.Route seq r) = ¬ AcknowledgesNone r
HandsNone other = Unit {0}

-- it hands no command on, and refuses only sessions of S
abbrev pub IsFair : (Session → Type 0) → Sent → Type 0
IsFair S (sent.Message to m) = HandsNone m.body
IsFair S (sent.Reply t r) = AcknowledgesNone r → S t

abbrev pub AllFair : (Session → Type 0) → List Sent → Type 0
AllFair S sends = AllByRecursion (IsFair S) sends

abbrev pub Nobody : Session → Type 0
Nobody t = ⊥

-- it refuses only sessions of S, and may hand a command on
abbrev pub IsCalmBody : Body → Type 0
IsCalmBody (body.Route seq r) = ¬ AcknowledgesNone r
IsCalmBody other = Unit {0}

abbrev pub IsCalm : (Session → Type 0) → Sent → Type 0
IsCalm S (sent.Message to m) = IsCalmBody m.body
IsCalm S (sent.Reply t r) = AcknowledgesNone r → S t

pub fair_calm : (S T : Session → Type 0) → ((t : Session) → S t → T t) → (sends : List Sent) → AllFair S sends → AllByRecursion (IsCalm T) sends
fair_calm S T f sends k = all_map (IsFair S) (IsCalm T) by sends k
  where
    calm_body : (b : Body) → HandsNone b → IsCalmBody b
    calm_body (body.Route seq r) k = k
    calm_body other k = tt

    by : (x : Sent) → IsFair S x → IsCalm T x
    by (sent.Message to m) o = calm_body m.body o
    by (sent.Reply t r) o = λ u. f t (o u)
