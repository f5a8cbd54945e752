-- A value is made of a draft that is no longer than it may be.
use Rattle.std.proofs.Common.{◌≡◌, ℕ, suc, ◌+◌, List, subst, arith}
use Rattle.mon_bytes.specs.declared.command.Command.{Command}
use Rattle.mon_tx.specs.declared.op.Op.{Op}
use Rattle.mon_msg.specs.Protocol.Services.{service_first, service_last}
use Rattle.mon_msg.specs.Protocol.Rules.{value_ops}
use Rattle.mon_msg.specs.Protocol.Value.{service_of}
use Rattle.mon_msg.specs.Protocol.Readings.{Readings}
use Rattle.mon_msg.specs.Puts.{area_of}
use Rattle.mon_wire.specs.declared.request.Service.{Service}
use Rattle.svc_core.specs.Drafts.{IsShort, IsShortValue}
use Rattle.svc_core.specs.declared.made.Draft.{Draft}

pub short_value : (w : Readings) (c : Command) (s : Service) (n : ℕ) (d : Draft) (ops : List Op) → s ≡ service_of c → n ≡ service_last w s + 1 → IsShort d
    → ops ≡ value_ops w.first w.last (area_of s) n (service_first w s) d.incremental d.text → IsShortValue w (service_of c) ops
short_value w c s n d ops same number short is =
    let m : n ≡ suc (service_last w s) = omega (arith, number) in
    let as_next = rw m at is in
    subst (λ (s : Service). IsShortValue w s ops) same (record { incremental = d.incremental; text = d.text; is = as_next; short_incremental = short.incremental; short_text = short.text })
