use Rattle.std.proofs.Common.{rules, ◌≡◌, [], ◌∷◌, sym, ap, ◌∙◌, inl}
use Rattle.mon_link.specs.Histories.Happened.{WasSent}
use Rattle.mon_link.specs.declared.link.Peer.TheVariants.{Client}
use Rattle.mon_link.proofs.Layers.{grows_one}
use Rattle.mon_name.specs.Numbers.{renumbered}
use Rattle.mon_name.proofs.Numbers.{plain}
use Rattle.mon_name.proofs.named.Named.sends_to.Goals as goal

pub returns-then-not-is_piece-clause-grows : goal.returns-then-not-is_piece-clause-grows
returns-then-not-is_piece-clause-grows g c =
    let same = plain c.args.self.now.life c.args.bytes.now (sym c.is_piece.ensures ∙ c.if-not-is_piece.true) in
    grows_one _ _ _ (WasSent (Client c.args.client) c.args.bytes.now c.send.result) c.send.ensures.goes_on
    (inl (ap (λ bytes. WasSent (Client c.args.client) bytes c.send.result ∷ []) (sym same)))

pub returns-in-Ok-clause-grows : goal.returns-in-Ok-clause-grows
returns-in-Ok-clause-grows g c =
    let same : c.as_slice.result.now ≡ renumbered c.args.self.now.life c.args.bytes.now = search rules in
    grows_one _ _ _ (WasSent (Client c.args.client) c.as_slice.result.now c.send-in-Ok.result) c.send-in-Ok.ensures.goes_on
    (inl (ap (λ bytes. WasSent (Client c.args.client) bytes c.send-in-Ok.result ∷ []) same))
