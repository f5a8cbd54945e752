use Rattle.std.proofs.Common.{rules, ◌≡◌, [], ◌∷◌, refl, subst, sym, ap, ◌∙◌, inl}
use Rattle.mon_link.specs.Histories.Happened.{WasSent}
use Rattle.mon_link.specs.declared.link.Peer.TheVariants.{Client, Monitor}
use Rattle.mon_link.proofs.Layers.{grows_as, grows_one}
use Rattle.mon_link.specs.Layers.{Grows}
use Rattle.mon_name.specs.Histories.{IsAskedToSend, NamedDoes, names}
use Rattle.mon_name.specs.Naming.{wired}
use Rattle.mon_name.specs.Numbers.{renumbered}
use Rattle.mon_name.proofs.named.NamedLink.send.Goals as goal

pub returns-in-Ok-clause-does : goal.returns-in-Ok-clause-does
returns-in-Ok-clause-does g c =
    let tag = c.args.self.now.tag in
    let life = c.args.self.now.life in
    let same : c.as_slice.result.now ≡ wired tag life (Monitor c.in-Monitor.rank) c.args.bytes.now = search rules in
    grows_one _ _ _ (WasSent (Monitor c.in-Monitor.rank) c.as_slice.result.now c.send.result) c.send.ensures.goes_on (
      inl (
          ap (λ bytes. WasSent (Monitor c.in-Monitor.rank) bytes c.send.result ∷ []) same
          ∙ ap (λ to. WasSent to (wired tag life to c.args.bytes.now) c.send.result ∷ []) (sym c.in-Monitor.is)
          ),
      refl,
    )

pub returns-in-Client-clause-does : goal.returns-in-Client-clause-does
returns-in-Client-clause-does g c =
    let tag = c.args.self.now.tag in
    let life = c.args.self.now.life in
    let new = c.sends_to.new.self in
    let same : names new.tag new.life ≡ names tag life = rw (c.sends_to.ensures.tag, c.sends_to.ensures.life) refl in
    subst (λ to. Grows (g.L.Link.history c.args.self.now.inner) (λ calls. NamedDoes (names tag life) (WasSent to c.args.bytes.now c.sends_to.result) calls (names new.tag new.life)) (g.L.Link.history new.inner)) (sym c.in-Client.is)
    (grows_as _ _ (IsAskedToSend (Client c.in-Client.client) (renumbered life c.args.bytes.now) c.sends_to.result) _ (λ calls p. (p, same)) c.sends_to.ensures.grows)
