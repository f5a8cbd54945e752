-- What a client asks in a message may come.
use Rattle.std.proofs.Common.{◌≡◌, ℕ, subst, arith}
use Rattle.mon_bounds.specs.Fitting.{IsValidInput}
use Rattle.mon_msg.specs.declared.input.Input.TheVariants as input
use Rattle.mon_wire.specs.Message.Bodies as bodies
use Rattle.mon_wire.specs.Message.Bodies.{encoded}
use Rattle.mon_wire.specs.Message.Whole.{HasText}
use Rattle.mon_wire.specs.declared.body.Body.TheVariants as body
use Rattle.mon_wire.specs.declared.body.Body.{Body}
use Rattle.mon_wire.specs.declared.message.Message.{Message}
use Rattle.mon_wire.specs.declared.request.Request.TheVariants as request
use Rattle.mon_wire.specs.declared.request.Request.{Request}

input_is_short : (client id : ℕ) (r : Request) → bodies.request.Form (id, r) → IsValidInput (input.Client (record { client = client; id = id }) r)
input_is_short client id (request.Set key value) h = (h.0, ((h.1.0, h.1.1.0), omega (arith, h.1.1.1)))
input_is_short client id (request.Remove key) h = (h.0, (h.1, omega arith))
input_is_short client id (request.Log text) h = (h.0, (h.1.0, omega (arith, h.1.1)))
input_is_short client id (request.Show s) h = (h.0, tt)
input_is_short client id (request.Since s version) h = (h.0, h.1.1)

pub may_ask : (client : ℕ) (m : Message) (id : ℕ) (r : Request) → HasText m → m.body ≡ body.Request id r → IsValidInput (input.Client (record { client = client; id = id }) r)
may_ask client m id r h e = input_is_short client id r (subst (λ (b : Body). (encoded m.monitors m.from b).Form) e h.form.body)
