use Rattle.std.proofs.Common.{◌≡◌, ℕ, List, [], ◌∷◌, Option, None, Some, Result, Ok, Err, refl, ap, subst, ◌∙◌}
use Rattle.std.specs.Prelude.{option_map}
use Rattle.mon_bytes.specs.declared.memory.OutOfMemory.{OutOfMemory as NoMemory}
use Rattle.mon_link.specs.Histories.Happened.{WasSent}
use Rattle.mon_link.specs.Histories.{GoesOn}
use Rattle.mon_link.specs.Links.{CallsSend, Observed, send_leaves}
use Rattle.mon_link.specs.declared.link.Peer.{Peer}
use Rattle.mon_types.specs.declared.names.Stop.TheVariants.{Failed, OutOfMemory}
use Rattle.mon_types.specs.declared.names.Stop.{Stop}
use Rattle.mon_node.specs.Posting.{Posts, and_sent, to_peer}
use Rattle.mon_node.specs.Sends.{LinkNow, link_now}
use Rattle.mon_node.proofs.Sending.{none_sent}
use Rattle.mon_node.proofs.Sends.{one_wants, one_went}
use Rattle.mon_node.proofs.posting.send_one.Goals as goal

-- a datagram for which memory ran out isn't listed
lacked : (to : Peer) (bytes : List ℕ) (o : Option Observed) → option_map (send_leaves to bytes (Err OutOfMemory)) o ≡ option_map (and_sent []) o
lacked to bytes None = refl
lacked to bytes (Some t) = none_sent (Some t)

module _ (E : Type 0) (e : E) (to : Peer) (bytes : List ℕ) (old new : LinkNow) where
  -- a datagram that failed is lost
  abbrev PostsBy : Result (Unit {0}) Stop → Type 0
  PostsBy (Ok x) = Posts {T = Unit {0}} {E = E} (to_peer to bytes ∷ []) (Ok tt) old new
  PostsBy (Err Failed) = Posts {T = Unit {0}} {E = E} (to_peer to bytes ∷ []) (Ok tt) old new
  PostsBy (Err OutOfMemory) = Posts {T = Unit {0}} {E = E} (to_peer to bytes ∷ []) (Err e) old new

  posts : (a : Result (Unit {0}) Stop) → CallsSend to bytes a old.state new.state → GoesOn old.history (WasSent to bytes a) new.history → PostsBy a
  posts (Ok x) call goes = record { observed = call.observed; went = one_went (to_peer to bytes) (Ok x) old.history new.history goes (λ is. absurd cc); faults = call.faults }
  posts (Err Failed) call goes = record { observed = call.observed; went = one_went (to_peer to bytes) (Err Failed) old.history new.history goes (λ is. absurd cc); faults = call.faults }
  posts (Err OutOfMemory) call goes = record {
    observed = (0, call.observed ∙ lacked to bytes old.state.observed);
    went = one_wants (to_peer to bytes) (Err OutOfMemory) old.history new.history goes;
    faults = call.faults;
  }

  posts_as : (a b : Result (Unit {0}) Stop) → a ≡ b → CallsSend to bytes a old.state new.state → GoesOn old.history (WasSent to bytes a) new.history → PostsBy b
  posts_as a b is call goes = subst PostsBy is (posts a call goes)

pub returns-in-Ok : goal.returns-in-Ok
returns-in-Ok g c =
    posts_as NoMemory (record {}) c.args.to.now c.args.datagram.now (link_now g.L.Link.state g.L.Link.history c.args.link.now) (link_now g.L.Link.state g.L.Link.history c.send.new.self)
    c.send.result (Ok tt) c.in-Ok.is c.send.ensures.calls c.send.ensures.goes_on

pub returns-in-Err-Failed : goal.returns-in-Err-Failed
returns-in-Err-Failed g c =
    posts_as NoMemory (record {}) c.args.to.now c.args.datagram.now (link_now g.L.Link.state g.L.Link.history c.args.link.now) (link_now g.L.Link.state g.L.Link.history c.send.new.self)
    c.send.result (Err Failed) (c.in-Err-Failed.is ∙ ap Err c.in-Err-Failed.field-0-is) c.send.ensures.calls c.send.ensures.goes_on

pub returns-in-Err-OutOfMemory : goal.returns-in-Err-OutOfMemory
returns-in-Err-OutOfMemory g c =
    posts_as NoMemory (record {}) c.args.to.now c.args.datagram.now (link_now g.L.Link.state g.L.Link.history c.args.link.now) (link_now g.L.Link.state g.L.Link.history c.send.new.self)
    c.send.result (Err OutOfMemory) (c.in-Err-OutOfMemory.is ∙ ap Err c.in-Err-OutOfMemory.field-0-is) c.send.ensures.calls c.send.ensures.goes_on
