-- A process sends only encoded messages. What it hears of such messages and of clients is an input that may come. Both
-- hold on any store.
use Rattle.law_names.proofs.Runs.{epoch}
use Rattle.law_names.proofs.Table.{AllByRecursion, Body, Contains, HasText, Input, IsBytes, Me, Message, MsgRefused, Sent, Store, message_of}
use Rattle.mon_bounds.specs.Fitting.{answer_in as reply_in}
use Rattle.mon_decode.proofs.WholeLaws.{message_again, message_is_found}
use Rattle.mon_msg.specs.declared.input.Input.TheVariants as input
use Rattle.mon_msg.specs.declared.plan.Sent.TheVariants as sent
use Rattle.mon_node.proofs.Letters.{may_deliver}
use Rattle.mon_node.proofs.Requests.{may_ask}
use Rattle.mon_node.specs.Hearing.{from_client, from_monitor, input_of}
use Rattle.mon_wire.specs.Message.Whole.{text}
use Rattle.mon_wire.specs.declared.body.Body.TheVariants as body
use Rattle.quorum_network.proofs.Letters.{IsRight, Letter}
use Rattle.quorum_network.proofs.Names.{Client, IsValidInput, Monitor, NodeEnd, Outgoing, Peer, TimedInput, at_time, input_in, input_read, is_request, letters}
use Rattle.quorum_network.proofs.Sends.{IsCuttable, SentHasText, text_cuttable}
use Rattle.std.proofs.Common.{Bool, Err, IfSome, List, None, Ok, Option, Result, Some, [], ap, cond, eqb, false, not, option_map, refl, subst, sym, true, ℕ, ◌&&◌, ◌∙◌, ◌∷◌, ◌≡◌}

-- ---- messages

-- bytes are a message
abbrev pub IsText : List ℕ → Type 0
IsText bytes = (m : Message) × HasText m × (bytes ≡ text m)

-- what is sent are messages
pub all_texts : (me : Me) (m : Store) (sends : List Sent) → AllByRecursion (SentHasText me (epoch m)) sends → AllByRecursion (λ (o : Outgoing). IsText o.bytes) (letters me m sends)
all_texts me m [] h = tt
all_texts me m (sent.Message to x ∷ sends) h = ((x, h.0, refl), all_texts me m sends h.1)
all_texts me m (sent.Reply to r ∷ sends) h = ((reply_in me (epoch m) to r, h.0, refl), all_texts me m sends h.1)

pub text_cut : (bytes : List ℕ) → IsText bytes → IsCuttable bytes
text_cut bytes (m, has, e) = subst IsCuttable (sym e) (text_cuttable m has)

-- ---- inputs

abbrev MayBe : Option Input → Type 0
MayBe came = IfSome came IsValidInput

may_if : (b : Bool) (came : Option Input) → MayBe came → MayBe (cond b came None)
may_if true came h = h
may_if false came h = tt

of_monitor : (n j : ℕ) (m : Message) → HasText m → MayBe (input_of n (Monitor j) m)
of_monitor n j m has =
    may_if (eqb m.monitors n) (from_monitor j m) (may_if (eqb m.from j && not (is_request m.body)) (Some (input.Deliver m)) (may_deliver m has))

of_body : (c : ℕ) (m : Message) (b : Body) → HasText m → m.body ≡ b → MayBe (from_client c b)
of_body c m (body.Request id r) has e = may_ask c m id r has e
of_body c m other has e = tt

of_client : (n c : ℕ) (bytes : List ℕ) (r : Result Message MsgRefused) → IsBytes bytes → message_of bytes ≡ r → MayBe (input_read n (Client c) r)
of_client n c bytes (Ok m) fits e = may_if (eqb m.monitors n) (from_client c m.body) (of_body c m m.body (message_is_found bytes (Ok m) fits e).0 refl)
of_client n c bytes (Err f) fits e = tt

abbrev pub IfInput : Result (Option TimedInput) NodeEnd → Type 0
IfInput (Ok (Some it)) = IsValidInput it.input
IfInput (Ok None) = Unit {0}
IfInput (Err e) = Unit {0}

pub timed_input : (at : ℕ) (came : Option Input) → MayBe came → IfInput (Ok (option_map (at_time at) came))
timed_input at None h = tt
timed_input at (Some came) h = h

-- an assembly's answer that is right gives an input that may come, or none
pub answer_may : (ls : List Letter) (texts : (l : Letter) → Contains ls l → IsText l.bytes) (i n : ℕ) (from : Peer) (answer : Option (List ℕ)) → IsRight ls i from answer → MayBe (input_in n from answer)
answer_may ls texts i n from None right = tt
answer_may ls texts i n (Monitor j) (Some bytes) (l, c, by, to, is) =
    let t = texts l c in
    subst (λ (r : Result Message MsgRefused). MayBe (input_read n (Monitor j) r)) (sym (ap message_of (sym is ∙ t.2) ∙ message_again t.0 t.1)) (of_monitor n j t.0 t.1)
answer_may ls texts i n (Client c) (Some bytes) right = of_client n c bytes (message_of bytes) right refl
