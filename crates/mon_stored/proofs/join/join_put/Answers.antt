use Rattle.std.proofs.Common.{◌≡◌, ◌+◌, ◌∙◌, arith}
use Rattle.mon_tx.specs.Map.{number_at}
use Rattle.mon_stored.proofs.Picking.{join-puts, join-replaces}
use Rattle.mon_stored.proofs.join.join_put.Goals as goal

pub index_mut-requires : goal.index_mut-requires
index_mut-requires c =
    let within = (join-replaces c.args.ops.now c.args.i c.args.order.now.items c.args.index.now c.requires.joined c.requires.within c.requires.few c.args.prefix.now c.args.key.now c.requires.put.0 c.requires.put.1
    c.number-at.result (c.number-at.ensures.value ∙ (λ i. number_at c.args.index.now (c.as_slice-prefix_bytes.ensures.value i) (c.as_slice-key_bytes.ensures.value i))) c.if-at-gt0.true).0 in
    omega (arith, within, c.args.order.now.ok.0)

pub returns-then-at-gt0 : goal.returns-then-at-gt0
returns-then-at-gt0 c =
    (join-replaces c.args.ops.now c.args.i c.args.order.now.items c.args.index.now c.requires.joined c.requires.within c.requires.few c.args.prefix.now c.args.key.now c.requires.put.0 c.requires.put.1
    c.number-at.result (c.number-at.ensures.value ∙ (λ i. number_at c.args.index.now (c.as_slice-prefix_bytes.ensures.value i) (c.as_slice-key_bytes.ensures.value i))) c.if-at-gt0.true).1

pub returns : goal.returns
returns c =
    let told : c.number-at.result ≡ number_at c.args.index.now c.args.prefix.now c.args.key.now =
    c.number-at.ensures.value ∙ (λ i. number_at c.args.index.now (c.as_slice-prefix_bytes.ensures.value i) (c.as_slice-key_bytes.ensures.value i)) in
    rw c.in_ok-push.ensures.items
    (join-puts c.args.ops.now c.args.i c.args.order.now.items c.args.index.now c.requires.joined c.requires.within c.requires.few c.args.prefix.now c.args.key.now c.requires.put.0 c.requires.put.1
    (c.len.result + 1) c.note.new.index (omega (arith, told, c.if-at-gt0.false)) (omega (arith, c.len.ensures, c.args.order.now.ok.0)) c.in_ok-note.ensures)
