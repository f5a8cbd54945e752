-- The messages of three monitors that elect a leader.
use Rattle.calm_quorum.proofs.States.{me_at, says}
use Rattle.law_names.proofs.Runs.{Monitors, classic}
use Rattle.law_names.proofs.Table.{Body, HasText, Me, Message, no_ranks, only, with_rank}
use Rattle.mon_bytes.specs.Format.{u16_bytes}
use Rattle.mon_wire.specs.Message.Bodies.{encoded as body_encoded}
use Rattle.mon_wire.specs.Message.Fields.{number_bytes, set_bytes}
use Rattle.mon_wire.specs.Message.Whole.{text}
use Rattle.mon_wire.specs.declared.body.Body.TheVariants as body
use Rattle.quorum_network.proofs.Names.{is_request}
use Rattle.std.proofs.Common.{Bool, List, None, [], arith, false, length, lit≤, nat_lt, refl, true, ℕ, ◌<◌, ◌^◌, ◌≡◌, ◌≤◌}

abbrev pub three : Monitors
three = classic 3 (lit≤ tt)

abbrev pub me : (i : ℕ) → nat_lt i 3 ≡ true → Me
me i lt = me_at 3 i (lit≤ tt) lt

abbrev pub me_0 : Me
me_0 = me 0 refl

abbrev pub me_1 : Me
me_1 = me 1 refl

-- ---- the messages

pub record IsMail (j : ℕ) (m : Message) : Type 0 where
  pub has : HasText m
  pub short : length (text m) ≤ 60000
  pub from : m.from ≡ j
  pub count : m.monitors ≡ 3
  pub tells : is_request m.body ≡ false

mail : (j e : ℕ) (b : Body) → j < 3 → e ≤ 2 ^ 62 → is_request b ≡ false → ((body_encoded 3 j b).tag ≡ 24 → ⊥) → (body_encoded 3 j b).Form → length (text (says 3 j e b)) ≤ 60000 → IsMail j (says 3 j e b)
mail j e b lt le asks_nothing other form short = record {
  has = record { form = record { sender = lt; monitors = lit≤ tt; epoch = le; asks = λ is. absurd (other is); body = form }; short = omega (arith, short) };
  short = short;
  from = refl;
  count = refl;
  tells = asks_nothing;
}

abbrev pub both : List Bool
both = with_rank (only 0) 1

abbrev pub probe : ℕ → Message
probe i = says 3 i 1 body.Probe

abbrev pub answer : ℕ → Message
answer i = says 3 i 1 (body.ProbeReply no_ranks 0 0)

abbrev pub propose : ℕ → Message
propose i = says 3 i 1 (body.Propose None)

abbrev pub ack : Message
ack = says 3 1 1 body.Ack

abbrev pub victory : Message
victory = says 3 0 2 (body.Victory both)

abbrev pub collects : Message
collects = says 3 0 2 (body.Collect 100 0 0)

abbrev pub last : Message
last = says 3 1 2 (body.Last 100 0 0 true 1 [] None)

abbrev pub lease : Message
lease = says 3 0 2 (body.Lease 0)

pub probe_mail : (i : ℕ) → i < 3 → IsMail i (probe i)
unfolding number_bytes
probe_mail i lt = mail i 1 body.Probe lt (lit≤ tt) refl (λ e. absurd (omega (arith, e))) tt (lit≤ tt)

pub answer_mail : (i : ℕ) → i < 3 → IsMail i (answer i)
unfolding number_bytes set_bytes
answer_mail i lt = mail i 1 (body.ProbeReply no_ranks 0 0) lt (lit≤ tt) refl (λ e. absurd (omega (arith, e))) ((refl, lit≤ tt), (lit≤ tt, lit≤ tt)) (lit≤ tt)

pub propose_mail : (i : ℕ) → i < 3 → IsMail i (propose i)
unfolding number_bytes
propose_mail i lt = mail i 1 (body.Propose None) lt (lit≤ tt) refl (λ e. absurd (omega (arith, e))) tt (lit≤ tt)

pub ack_mail : IsMail 1 ack
unfolding number_bytes
ack_mail = mail 1 1 body.Ack (lit≤ tt) (lit≤ tt) refl (λ e. absurd (omega (arith, e))) tt (lit≤ tt)

pub victory_mail : IsMail 0 victory
unfolding number_bytes set_bytes
victory_mail = mail 0 2 (body.Victory both) (lit≤ tt) (lit≤ tt) refl (λ e. absurd (omega (arith, e))) (refl, lit≤ tt) (lit≤ tt)

pub collect_mail : IsMail 0 collects
unfolding number_bytes
collect_mail = mail 0 2 (body.Collect 100 0 0) (lit≤ tt) (lit≤ tt) refl (λ e. absurd (omega (arith, e))) (lit≤ tt, (lit≤ tt, lit≤ tt)) (lit≤ tt)

pub last_mail : IsMail 1 last
unfolding number_bytes u16_bytes
last_mail = mail 1 2 (body.Last 100 0 0 true 1 [] None) (lit≤ tt) (lit≤ tt) refl (λ e. absurd (omega (arith, e))) (lit≤ tt, (lit≤ tt, (lit≤ tt, (tt, (lit≤ tt, ((lit≤ tt, tt), tt)))))) (lit≤ tt)

pub lease_short : length (text lease) ≤ 60000
unfolding number_bytes
lease_short = lit≤ tt
