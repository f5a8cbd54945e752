use Rattle.std.proofs.Common.{List, ℕ, ap, subst, string_bytes}
use Rattle.std.specs.Map.Iter.{deref_pair}
use Rattle.std.proofs.lemmas.Map.Iter.{rest_more, rest_all}
use Rattle.map_kv.specs.Kept.{pairs}
use Rattle.trace_text.specs.Shown.{AllLogged, member_events, members_events}
use Rattle.trace_text.proofs.Printed.{Still, all_done, begun, one_done}
use Rattle.trace_text.proofs.shown.put_members.Goals as goal

pub loop-key-init : goal.loop-key-init
loop-key-init g c =
    let first = g.S.Serializer.written c.args.out.now in
    subst (λ rest. Still first first (members_events (pairs c.into_iter-key-iterator.result)) (members_events (pairs rest))) c.into_iter-key-iterator.ensures.into_iter_gives (begun first _)

pub loop-key-preserved : goal.loop-key-preserved
loop-key-preserved g c =
    let took = rest_more deref_pair c.loop-key.key-iterator c.next.new.self c.next.result (c.in-Some.key, c.in-Some.value) c.in-Some.is c.next.ensures.steps in
    let key = string_bytes c.in-Some.key.now in
    let step = subst (λ (k : List ℕ). AllLogged (g.S.Serializer.written c.loop-key.out) (g.S.Serializer.written c.put_member.new.out) (member_events (k, c.as_str-in-loop-key.result.now))) c.as_str.ensures.value c.in_ok-put_member.ensures in
    let whole = subst (λ (v : List ℕ). AllLogged (g.S.Serializer.written c.loop-key.out) (g.S.Serializer.written c.put_member.new.out) (member_events (key, v))) c.as_str-in-loop-key.ensures step in
    one_done _ _ _ (member_events (key, c.in-Some.value.now)) (members_events (pairs c.loop-key.key-iterator)) (members_events (pairs c.next.new.self)) (members_events (pairs c.args.entries))
    (ap (λ rest. members_events (pairs rest)) took) whole c.loop-key.invariant

pub returns : goal.returns
returns g c =
    let none = rest_all deref_pair c.loop-key.key-iterator c.next.new.self c.next.result c.in-None.is c.next.ensures.steps in
    all_done c.end_map.result _ _ _ _ (members_events (pairs c.loop-key.key-iterator)) (members_events (pairs c.args.entries)) (ap (λ rest. members_events (pairs rest)) none) c.end_map.ensures c.loop-key.invariant
