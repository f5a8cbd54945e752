-- What is read as a message is encoded so, and what is encoded so is read.
use Rattle.std.proofs.Common.{◌≡◌, ℕ, ◌^◌, ◌≤◌, ◌<◌, true, false, not, ◌&&◌, cond, eqb, ltb, leb, List, [], ◌∷◌, ◌++◌, length, Result, Ok, Err, refl, sym, ap, subst, ◌∙◌, arith, inl, inr}
use Rattle.std.specs.Prelude.{IfOk}
use Rattle.std.proofs.lemmas.Bool.{ltb-false, le-ltb, eqb-true, cases_eq}
use Rattle.std.proofs.lemmas.Bool.Decides.{nat_tests}
use Rattle.std.proofs.lemmas.List.{append-nil, nil_from_length}
use Rattle.mon_bytes.specs.Reading.{IsBytes, Reading, number}
use Rattle.mon_bytes.proofs.Fields.{guard_ok, chosen_ok, ok_is, Takes, Takes-then, Takes-whole, byte_takes, Found, byte_found}
use Rattle.mon_wire.specs.declared.message.Message.{Message}
use Rattle.mon_wire.specs.declared.refusal.MsgKind.TheVariants as fault
use Rattle.mon_wire.specs.declared.refusal.MsgRefused.{MsgRefused}
use Rattle.mon_wire.specs.declared.refusal.MsgRefused.TheVariants as refused
use Rattle.mon_wire.specs.Message.Format.{faults, ◌>>=◌, cut, Gives}
use Rattle.mon_wire.specs.Message.Fields.{number_bytes, number_at}
use Rattle.mon_wire.specs.Message.Bodies.{encoded, body_at}
use Rattle.mon_wire.specs.Message.Length.{most_message}
use Rattle.mon_wire.specs.Message.Whole.{asking, kind_of, text, IsMessage, HasText, format_at, kind_at, sender_at, epoch_at, message_at, ended, whole_at, message_of}
use Rattle.mon_bytes.proofs.Formats.{bind_ok, at_fault_ok, not_zero, above_zero}
use Rattle.mon_decode.specs.Headers.{kind_byte, kind_in}
use Rattle.mon_decode.proofs.FieldLaws.{numeral-lawful}
use Rattle.mon_decode.proofs.BodyLaws.{body_takes, tag-is, body_found}
use Rattle.mon_decode.proofs.KindBytes.{byte_of_kind, kind_of_byte, kind_low, kind_high}

-- ---- the header

format_takes : (c : Reading) (x : ℕ × Reading) → IsBytes c.rest → format_at c ≡ Ok x → Takes c (1 ∷ []) x.1
unfolding format_at
format_takes c x fits e =
    let a = bind_ok (cut (number 1 c)) (λ n. cond (eqb n.0 1) (Ok n) (Err (refused.At c.at fault.Format))) x e in
    let g = chosen_ok (eqb a.0.0 1) (refused.At c.at fault.Format) (Ok a.0) x a.2 in
    let one : a.0.0 ≡ 1 = eqb-true _ _ g.0 in
    subst (λ (p : ℕ × Reading). Takes c (1 ∷ []) p.1) (ok_is a.0 x g.1) (subst (λ (n : ℕ). Takes c (n ∷ []) a.0.1) one (byte_takes c a.0 fits (at_fault_ok faults.cut (number 1 c) a.0 a.1)).0)

kind_takes : (c : Reading) (x : ℕ × Reading) → IsBytes c.rest → kind_at c ≡ Ok x → Takes c (x.0 ∷ []) x.1 × (1 ≤ x.0) × (x.0 ≤ 25)
unfolding kind_at
kind_takes c x fits e =
    let bad = refused.At c.at fault.Kind in
    let a = bind_ok (cut (number 1 c)) (λ n. cond (eqb n.0 0) (Err bad) (cond (ltb 25 n.0) (Err bad) (Ok n))) x e in
    let low = guard_ok (eqb a.0.0 0) bad (cond (ltb 25 a.0.0) (Err bad) (Ok a.0)) x a.2 in
    let high = guard_ok (ltb 25 a.0.0) bad (Ok a.0) x low.1 in
    subst (λ (p : ℕ × Reading). Takes c (p.0 ∷ []) p.1 × (1 ≤ p.0) × (p.0 ≤ 25)) (ok_is a.0 x high.1)
    ((byte_takes c a.0 fits (at_fault_ok faults.cut (number 1 c) a.0 a.1)).0, not_zero a.0.0 low.0, ltb-false _ _ high.0)

asks_zero : (kind n : ℕ) → (eqb kind 24 && not (eqb n 0)) ≡ false → kind ≡ asking → n ≡ 0
asks_zero kind n e is =
    elim (cases_eq n 0) [
      | inl h ↦ h
      | inr ne ↦
          let k : eqb kind 24 ≡ true = grind (arith, nat_tests) in
          let t : eqb n 0 ≡ false = grind (arith, nat_tests) in
          let r = rw (k, t) at e in
          absurd cc
    ]

not_asking : (kind n : ℕ) → (kind ≡ asking → n ≡ 0) → (eqb kind 24 && not (eqb n 0)) ≡ false
not_asking kind n h =
    elim (cases_eq kind 24) [
      | inl is ↦ let zero_is = h is in rw (is, zero_is) refl
      | inr ne ↦ let k : eqb kind 24 ≡ false = grind (arith, nat_tests) in rw k refl
    ]

record TakesSender (kind : ℕ) (c : Reading) (x : (ℕ × ℕ) × Reading) : Type 0 where
  all : Takes c (x.0.0 ∷ x.0.1 ∷ []) x.1
  sender : x.0.0 < x.0.1
  monitors : x.0.1 ≤ 15
  asks : kind ≡ asking → x.0.0 ≡ 0

sender_takes : (kind : ℕ) (c : Reading) (x : (ℕ × ℕ) × Reading) → IsBytes c.rest → sender_at kind c ≡ Ok x → TakesSender kind c x
unfolding sender_at
sender_takes kind c x fits e =
    let bad = refused.At c.at fault.From in
    let no = refused.At c.at fault.Value in
    let a = bind_ok (cut (number 1 c)) (λ rank. cut (number 1 rank.1) >>= λ n. cond (leb n.0 rank.0) (Err bad) (cond (ltb 15 n.0) (Err bad) (cond (eqb kind 24 && not (eqb rank.0 0)) (Err no) (Ok ((rank.0, n.0), n.1))))) x e in
    let b = bind_ok (cut (number 1 a.0.1)) (λ n. cond (leb n.0 a.0.0) (Err bad) (cond (ltb 15 n.0) (Err bad) (cond (eqb kind 24 && not (eqb a.0.0 0)) (Err no) (Ok ((a.0.0, n.0), n.1))))) x a.2 in
    let low = guard_ok (leb b.0.0 a.0.0) bad (cond (ltb 15 b.0.0) (Err bad) (cond (eqb kind 24 && not (eqb a.0.0 0)) (Err no) (Ok ((a.0.0, b.0.0), b.0.1)))) x b.2 in
    let high = guard_ok (ltb 15 b.0.0) bad (cond (eqb kind 24 && not (eqb a.0.0 0)) (Err no) (Ok ((a.0.0, b.0.0), b.0.1))) x low.1 in
    let ask = guard_ok (eqb kind 24 && not (eqb a.0.0 0)) no (Ok ((a.0.0, b.0.0), b.0.1)) x high.1 in
    let t0 = byte_takes c a.0 fits (at_fault_ok faults.cut (number 1 c) a.0 a.1) in
    let t1 = byte_takes a.0.1 b.0 t0.0.bytes (at_fault_ok faults.cut (number 1 a.0.1) b.0 b.1) in
    let below : a.0.0 < b.0.0 = grind (arith, nat_tests, low.0) in
    subst (TakesSender kind c) (ok_is ((a.0.0, b.0.0), b.0.1) x ask.1)
    (record { all = Takes-then c a.0.1 b.0.1 (a.0.0 ∷ []) (b.0.0 ∷ []) t0.0 t1.0; sender = below; monitors = ltb-false _ _ high.0; asks = asks_zero kind a.0.0 ask.0 })

epoch_takes : (kind : ℕ) (c : Reading) (x : ℕ × Reading) → IsBytes c.rest → epoch_at kind c ≡ Ok x → Takes c (number_bytes x.0) x.1 × (x.0 ≤ 2 ^ 62) × (kind ≡ asking → x.0 ≡ 0)
unfolding epoch_at
epoch_takes kind c x fits e =
    let no = refused.At c.at fault.Value in
    let a = bind_ok (number_at c) (λ epoch. cond (eqb kind 24 && not (eqb epoch.0 0)) (Err no) (Ok epoch)) x e in
    let g = guard_ok (eqb kind 24 && not (eqb a.0.0 0)) no (Ok a.0) x a.2 in
    let t = numeral-lawful.takes c a.0 fits a.1 in
    subst (λ (p : ℕ × Reading). Takes c (number_bytes p.0) p.1 × (p.0 ≤ 2 ^ 62) × (kind ≡ asking → p.0 ≡ 0)) (ok_is a.0 x g.1) (t.0, t.1, asks_zero kind a.0.0 g.0)

-- ---- the whole, read

abbrev TakesMessage : Reading → Message × Reading → Type 0
TakesMessage c x = Takes c (text x.0) x.1 × IsMessage x.0

message_takes : (c : Reading) (x : Message × Reading) → IsBytes c.rest → message_at c ≡ Ok x → TakesMessage c x
unfolding message_at
message_takes c x fits e =
    let a = bind_ok (format_at c) (λ format. kind_at format.1 >>= λ kind. sender_at kind.0 kind.1 >>= λ sender. epoch_at kind.0 sender.1 >>= λ epoch. body_at sender.0.1 sender.0.0 (kind_of kind.0) epoch.1 >>= λ body. Ok (record { from = sender.0.0; monitors = sender.0.1; epoch = epoch.0; body = body.0 }, body.1)) x e in
    let k = bind_ok (kind_at a.0.1) (λ kind. sender_at kind.0 kind.1 >>= λ sender. epoch_at kind.0 sender.1 >>= λ epoch. body_at sender.0.1 sender.0.0 (kind_of kind.0) epoch.1 >>= λ body. Ok (record { from = sender.0.0; monitors = sender.0.1; epoch = epoch.0; body = body.0 }, body.1)) x a.2 in
    let kind = k.0.0 in
    let s = bind_ok (sender_at kind k.0.1) (λ sender. epoch_at kind sender.1 >>= λ epoch. body_at sender.0.1 sender.0.0 (kind_of kind) epoch.1 >>= λ body. Ok (record { from = sender.0.0; monitors = sender.0.1; epoch = epoch.0; body = body.0 }, body.1)) x k.2 in
    let rank = s.0.0.0 in
    let n = s.0.0.1 in
    let p = bind_ok (epoch_at kind s.0.1) (λ epoch. body_at n rank (kind_of kind) epoch.1 >>= λ body. Ok (record { from = rank; monitors = n; epoch = epoch.0; body = body.0 }, body.1)) x s.2 in
    let b = bind_ok (body_at n rank (kind_of kind) p.0.1) (λ body. Ok (record { from = rank; monitors = n; epoch = p.0.0; body = body.0 }, body.1)) x p.2 in
    let t0 = format_takes c a.0 fits a.1 in
    let t1 = kind_takes a.0.1 k.0 t0.bytes k.1 in
    let t2 = sender_takes kind k.0.1 s.0 t1.0.bytes s.1 in
    let t3 = epoch_takes kind s.0.1 p.0 t2.all.bytes p.1 in
    let t4 = body_takes n rank t2.monitors (kind_of kind) p.0.1 b.0 t3.0.bytes b.1 in
    let tag : (encoded n rank b.0.0).tag ≡ kind = t4.tag ∙ byte_of_kind kind t1.1 t1.2 in
    let said = (encoded n rank b.0.0).text in
    let all = Takes-then c a.0.1 b.0.1 (1 ∷ []) (kind ∷ rank ∷ n ∷ (number_bytes p.0.0 ++ said)) t0
    (Takes-then a.0.1 k.0.1 b.0.1 (kind ∷ []) (rank ∷ n ∷ (number_bytes p.0.0 ++ said)) t1.0
    (Takes-then k.0.1 s.0.1 b.0.1 (rank ∷ n ∷ []) (number_bytes p.0.0 ++ said) t2.all (Takes-then s.0.1 p.0.1 b.0.1 (number_bytes p.0.0) said t3.0 t4.all))) in
    subst (TakesMessage c) (ok_is (record { from = rank; monitors = n; epoch = p.0.0; body = b.0.0 }, b.0.1) x b.2) (
      subst (λ (m : ℕ). Takes c (1 ∷ m ∷ rank ∷ n ∷ (number_bytes p.0.0 ++ said)) b.0.1) (sym tag) all,
      record {
        sender = t2.sender;
        monitors = t2.monitors;
        epoch = t3.1;
        asks = λ is. let k = sym tag ∙ is in (t2.asks k, t3.2 k);
        body = t4.form;
      },
    )

ended_ok : {A : Type 0} (x : A × Reading) (y : A) → ended x ≡ Ok y → (x.0 ≡ y) × (x.1.rest ≡ [])
unfolding ended
ended_ok x y e =
    let g = chosen_ok (eqb (length x.1.rest) 0) (refused.At x.1.at fault.Rest) (Ok x.0) y e in
    (ok_is x.0 y g.1, nil_from_length x.1.rest (eqb-true _ _ g.0))

message_of_takes : (bytes : List ℕ) (m : Message) → IsBytes bytes → message_of bytes ≡ Ok m → HasText m × (bytes ≡ text m)
unfolding message_of whole_at
message_of_takes bytes m fits e =
    let c : Reading = record { at = 0; rest = bytes } in
    let g = guard_ok (ltb most_message (length bytes)) (refused.At 0 fault.TooLong) (message_at c >>= λ message. ended message) m e in
    let a = bind_ok (message_at c) (λ message. ended message) m g.1 in
    let done = ended_ok a.0 m a.2 in
    let t = message_takes c a.0 fits a.1 in
    let whole : bytes ≡ text a.0.0 = Takes-whole c a.0.1 (text a.0.0) t.0 done.1 in
    let short : length bytes ≤ most_message = ltb-false _ _ g.0 in
    subst (λ (m : Message). HasText m × (bytes ≡ text m)) done.0 (record { form = t.1; short = subst (λ (bs : List ℕ). length bs ≤ most_message) whole short }, whole)

pub message_is_found : (bytes : List ℕ) (r : Result Message MsgRefused) → IsBytes bytes → Gives (λ x. x) r (message_of bytes) → IfOk r (λ m. HasText m × (bytes ≡ text m))
message_is_found bytes (Ok m) fits h = message_of_takes bytes m fits h
message_is_found bytes (Err e) fits h = tt

-- ---- the whole, encoded

pub format_found : (c : Reading) (rest : List ℕ) → c.rest ≡ 1 ∷ rest → Found (format_at c) 1 rest
unfolding format_at
format_found c rest e = let a = byte_found c 1 rest e in (a.0, a.1, rw a.2 refl)

pub kind_found : (c : Reading) (n : ℕ) (rest : List ℕ) → c.rest ≡ n ∷ rest → 1 ≤ n → n ≤ 25 → Found (kind_at c) n rest
unfolding kind_at
kind_found c n rest e low high =
    let a = byte_found c n rest e in
    let some : eqb n 0 ≡ false = above_zero n low in
    let few : ltb 25 n ≡ false = le-ltb _ _ high in
    (a.0, a.1, rw (a.2, some, few) refl)

pub sender_found : (kind : ℕ) (c : Reading) (rank n : ℕ) (rest : List ℕ) → c.rest ≡ rank ∷ n ∷ rest → rank < n → n ≤ 15 → (kind ≡ asking → rank ≡ 0) → Found (sender_at kind c) (rank, n) rest
unfolding sender_at
sender_found kind c rank n rest e low high asks =
    let a = byte_found c rank (n ∷ rest) e in
    let b = byte_found a.0 n rest a.1 in
    let above : leb n rank ≡ false = grind (arith, nat_tests) in
    let few : ltb 15 n ≡ false = le-ltb _ _ high in
    (b.0, b.1, rw (a.2, b.2, above, few, not_asking kind rank asks) refl)

pub epoch_found : (kind : ℕ) (c : Reading) (n : ℕ) (rest : List ℕ) → c.rest ≡ number_bytes n ++ rest → n ≤ 2 ^ 62 → (kind ≡ asking → n ≡ 0) → Found (epoch_at kind c) n rest
unfolding epoch_at
epoch_found kind c n rest e le asks =
    let a = numeral-lawful.found c n rest e le in
    (a.0, a.1, rw (a.2, not_asking kind n asks) refl)

message_found : (c : Reading) (m : Message) → c.rest ≡ text m → IsMessage m → Found (message_at c) m []
unfolding message_at
message_found c m e form =
    let s = encoded m.monitors m.from m.body in
    let said = s.text in
    let tag : s.tag ≡ kind_byte (kind_in m.body) = tag-is m.monitors m.from m.body in
    let is : kind_of s.tag ≡ kind_in m.body = ap kind_of tag ∙ kind_of_byte (kind_in m.body) in
    let f = format_found c (s.tag ∷ m.from ∷ m.monitors ∷ (number_bytes m.epoch ++ said)) e in
    let k = kind_found f.0 s.tag (m.from ∷ m.monitors ∷ (number_bytes m.epoch ++ said)) f.1 (omega (arith, tag, kind_low (kind_in m.body))) (omega (arith, tag, kind_high (kind_in m.body))) in
    let w = sender_found s.tag k.0 m.from m.monitors (number_bytes m.epoch ++ said) k.1 form.sender form.monitors (λ is. (form.asks is).0) in
    let p = epoch_found s.tag w.0 m.epoch said w.1 form.epoch (λ is. (form.asks is).1) in
    let b = body_found m.monitors m.from form.monitors m.body p.0 [] (p.1 ∙ sym (append-nil said)) form.body in
    (b.0, b.1, rw (f.2, k.2, w.2, p.2, is, b.2) refl)

ended_found : {A : Type 0} (x : A) (c : Reading) → c.rest ≡ [] → ended (x, c) ≡ Ok x
unfolding ended
ended_found x c e = rw e refl

pub message_again : (m : Message) → HasText m → message_of (text m) ≡ Ok m
unfolding message_of whole_at
message_again m has =
    let short : ltb most_message (length (text m)) ≡ false = le-ltb _ _ has.short in
    let a = message_found (record { at = 0; rest = text m }) m refl has.form in
    rw (short, a.2) (ended_found m a.0 a.1)
