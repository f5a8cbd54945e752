-- Messages that may be sent.
use Rattle.std.proofs.Common.{◌≡◌, ℕ, ◌+◌, ◌*◌, ◌<◌, ◌≤◌, ◌^◌, Bool, true, false, eqb, leb, List, [], ◌∷◌, length, Option, Some, None, IfSome, refl, sym, ◌∙◌, arith, eq-eqb}
use Rattle.std.proofs.Math.Nat.{mul-le-mul_left}
use Rattle.std.proofs.lemmas.Bool.{and_from, and_parts, false≢true, le-leb, leb-true}
use Rattle.std.specs.List.{AllByRecursion}
use Rattle.election_rules.specs.Form.{IsTable}
use Rattle.election_rules.specs.declared.scores.Scores.{Scores}
use Rattle.log_model.specs.LogOfValues.{IsCommand}
use Rattle.mon_bytes.specs.declared.command.Command.TheVariants as command
use Rattle.mon_bytes.specs.declared.command.Command.{Command}
use Rattle.mon_msg.specs.Protocol.Commands.{most_text, text_length}
use Rattle.mon_msg.specs.Protocol.Length.{fits, message_length, short_list, short_lists}
use Rattle.mon_msg.specs.Protocol.Parts.{reply_length, table_length}
use Rattle.mon_msg.specs.declared.view.Me.{Me}
use Rattle.mon_tx.specs.Decode.{HasText}
use Rattle.mon_tx.specs.declared.op.Op.{Op}
use Rattle.mon_wire.specs.Message.Bodies.{encoded}
use Rattle.mon_wire.specs.Message.Client.{a_reply, is_routed}
use Rattle.mon_wire.specs.Message.Parts as parts
use Rattle.mon_wire.specs.Message.Whole.{asking}
use Rattle.mon_wire.specs.declared.body.Body.TheVariants as body
use Rattle.mon_wire.specs.declared.body.Body.{Body}
use Rattle.mon_wire.specs.declared.parts.Cookie.{Cookie}
use Rattle.mon_wire.specs.declared.parts.Place.{Place}
use Rattle.mon_wire.specs.declared.parts.Told.{Told}
use Rattle.mon_wire.specs.declared.reply.Reply.TheVariants as reply
use Rattle.mon_wire.specs.declared.reply.Reply.{Reply}
use Rattle.mon_bounds.proofs.Sizes.{word_short}
use Rattle.mon_bounds.proofs.Tables.{table_told}
use Rattle.mon_bounds.specs.Fitting.{IsNamed, MayGo, entries_in}
use Rattle.mon_bounds.specs.Remembered.{IsSet, MayPropose}

pub within : (n : ℕ) (b : Body) → message_length n b ≤ 1048576 → short_lists b ≡ true → fits n b ≡ true
within n b h s = and_from (leb (message_length n b) 1048576) (short_lists b) (le-leb _ _ h) s

-- what a message that fits carries
pub fits_length : (n : ℕ) (b : Body) → fits n b ≡ true → message_length n b ≤ 1048576
fits_length n b h = leb-true (message_length n b) 1048576 (and_parts (leb (message_length n b) 1048576) (short_lists b) h).0

pub fits_lists : (n : ℕ) (b : Body) → fits n b ≡ true → short_lists b ≡ true
fits_lists n b h = (and_parts (leb (message_length n b) 1048576) (short_lists b) h).1

pub few : {A : Type 0} (xs : List A) → short_list xs ≡ true → length xs < 2 ^ 16
few xs h = let l = leb-true (length xs) 65535 h in omega arith

-- a body that a monitor may send
pub record Said (me : Me) (b : Body) : Type 0 where
  pub form : AllByRecursion IsNamed (entries_in b) → (encoded me.member.monitors me.member.rank b).Form
  pub fits : fits me.member.monitors b ≡ true
  pub plain : eqb (encoded me.member.monitors me.member.rank b).tag asking ≡ false

module _ (me : Me) where
  abbrev n : ℕ
  n = me.member.monitors

  pub goes : (b : Body) (epoch : ℕ) → epoch ≤ 2 ^ 62 → Said me b → MayGo (record { from = me.member.rank; monitors = me.member.monitors; epoch = epoch; body = b })
  goes b epoch h S = record {
    form = λ k. record {
      sender = me.member.in_map;
      monitors = me.member.most;
      epoch = h;
      asks = λ e. absurd (false≢true (sym S.plain ∙ eq-eqb _ _ e));
      body = S.form k;
    };
    fits = S.fits;
  }

  pub probe : Said me body.Probe
  probe = record { form = λ _. tt; fits = refl; plain = refl }

  pub probe_reply : (q : List Bool) (first last : ℕ) → IsSet n q → first ≤ 2 ^ 62 → last ≤ 2 ^ 62 → Said me (body.ProbeReply q first last)
  probe_reply q first last s f l = record { form = λ _. (s, (f, l)); fits = refl; plain = refl }

  -- ---- tables

  table_short : (t : Scores) → table_length n (Some t) ≤ 2000
  table_short t =
      let most = me.member.most in
      let times : n * (16 + 4 * n) ≤ n * 76 = mul-le-mul_left n (omega arith) in
      omega (arith, times)

  abbrev pub IfTable : Option Scores → Type 0
  IfTable t = IfSome t (IsTable n me.member.rank)

  pub propose : (t : Option Scores) → IfTable t → Said me (body.Propose t)
  propose None h = record { form = λ _. tt; fits = refl; plain = refl }
  propose (Some t) h = record { form = λ _. table_told n me.member.rank t h; fits = within n (body.Propose (Some t)) (omega (arith, table_short t)) refl; plain = refl }

  pub ping : (t : Option Scores) → IfTable t → Said me (body.Ping t)
  ping None h = record { form = λ _. tt; fits = refl; plain = refl }
  ping (Some t) h = record { form = λ _. table_told n me.member.rank t h; fits = within n (body.Ping (Some t)) (omega (arith, table_short t)) refl; plain = refl }

  pub ping_reply : (t : Option Scores) → IfTable t → Said me (body.PingReply t)
  ping_reply None h = record { form = λ _. tt; fits = refl; plain = refl }
  ping_reply (Some t) h = record { form = λ _. table_told n me.member.rank t h; fits = within n (body.PingReply (Some t)) (omega (arith, table_short t)) refl; plain = refl }

  pub ack : Said me body.Ack
  ack = record { form = λ _. tt; fits = refl; plain = refl }

  pub victory : (q : List Bool) → IsSet n q → Said me (body.Victory q)
  victory q s = record { form = λ _. s; fits = refl; plain = refl }

  -- ---- values

  pub collect : (pn first last : ℕ) → pn ≤ 2 ^ 62 → first ≤ 2 ^ 62 → last ≤ 2 ^ 62 → Said me (body.Collect pn first last)
  collect pn first last p f l = record { form = λ _. (p, (f, l)); fits = refl; plain = refl }

  abbrev pub IsTold : Option Told → Type 0
  IsTold t = IfSome t (λ told. (told.pn ≤ 2 ^ 62) × HasText told.value)

  told_form : (t : Option Told) → IsTold t → (parts.optional parts.told).Form t
  told_form None h = tt
  told_form (Some t) h = h

  pub last : (pn first l : ℕ) (whole : Bool) (from : ℕ) (values : List (List Op)) (pending : Option Told) → pn ≤ 2 ^ 62 → first ≤ 2 ^ 62 → l ≤ 2 ^ 62 → from ≤ 2 ^ 62
      → AllByRecursion HasText values → IsTold pending → fits n (body.Last pn first l whole from values pending) ≡ true → Said me (body.Last pn first l whole from values pending)
  last pn first l whole from values pending p f k v each told ok =
      record { form = λ _. (p, (f, (k, (tt, (v, ((few values (fits_lists n (body.Last pn first l whole from values pending) ok), each), told_form pending told)))))); fits = ok; plain = refl }

  pub begin : (pn v : ℕ) (value : List Op) → pn ≤ 2 ^ 62 → v ≤ 2 ^ 62 → MayPropose value → Said me (body.Begin pn v value)
  begin pn v value p k V = record { form = λ _. (p, (k, V.form)); fits = within n (body.Begin pn v value) (let s = V.short in omega arith) refl; plain = refl }

  pub accept : (pn v : ℕ) → pn ≤ 2 ^ 62 → v ≤ 2 ^ 62 → Said me (body.Accept pn v)
  accept pn v p k = record { form = λ _. (p, k); fits = refl; plain = refl }

  pub commit : (from : ℕ) (value : List Op) (values : List (List Op)) → from ≤ 2 ^ 62 → AllByRecursion HasText (value ∷ values) → fits n (body.Commit from (value ∷ values)) ≡ true
      → Said me (body.Commit from (value ∷ values))
  commit from value values k each ok =
      record { form = λ _. (k, (omega arith, (few (value ∷ values) (fits_lists n (body.Commit from (value ∷ values)) ok), each))); fits = ok; plain = refl }

  pub commit_one : (v : ℕ) (value : List Op) → v ≤ 2 ^ 62 → MayPropose value → Said me (body.Commit v (value ∷ []))
  commit_one v value k V = commit v value [] k (V.form, tt) (within n (body.Commit v (value ∷ [])) (let s = V.short in omega arith) refl)

  pub lease : (l : ℕ) → l ≤ 2 ^ 62 → Said me (body.Lease l)
  lease l k = record { form = λ _. k; fits = refl; plain = refl }

  pub lease_ack : (l : ℕ) → l ≤ 2 ^ 62 → Said me (body.LeaseAck l)
  lease_ack l k = record { form = λ _. k; fits = refl; plain = refl }

  -- ---- commands and answers

  pub forward : (seq : ℕ) (c : Command) → seq ≤ 2 ^ 62 → IsCommand c → text_length c ≤ most_text c → Said me (body.Forward seq c)
  forward seq (command.Set k v) s form short =
      record { form = λ _. (s, (form.0, (form.1, omega arith))); fits = within n (body.Forward seq (command.Set k v)) (let l = word_short 255 k form.0 in omega arith) refl; plain = refl }
  forward seq (command.Remove k) s form short =
      record { form = λ _. (s, form); fits = within n (body.Forward seq (command.Remove k)) (let l = word_short 255 k form in omega arith) refl; plain = refl }
  forward seq (command.Log t) s form short =
      record { form = λ _. (s, (form, omega arith)); fits = within n (body.Forward seq (command.Log t)) (omega arith) refl; plain = refl }

  -- an answer to a command that a peon handed on
  pub record Routed (r : Reply) : Type 0 where
    pub routed : is_routed r ≡ true
    pub form : a_reply.Form r

  routed_short : (r : Reply) → is_routed r ≡ true → (reply_length r ≤ 17) × ((seq : ℕ) → short_lists (body.Route seq r) ≡ true) × ((id : ℕ) → short_lists (body.Reply id r) ≡ true)
  routed_short (reply.Done v) h = (omega arith, λ s. refl, λ s. refl)
  routed_short reply.NoSuch h = (omega arith, λ s. refl, λ s. refl)
  routed_short (reply.TooLong len most) h = (omega arith, λ s. refl, λ s. refl)
  routed_short (reply.MapFull would_be) h = (omega arith, λ s. refl, λ s. refl)
  routed_short (reply.Busy waiting) h = (omega arith, λ s. refl, λ s. refl)
  routed_short (reply.Shown s p v m) h = absurd cc
  routed_short (reply.Since s f is more) h = absurd cc
  routed_short reply.Unavailable h = absurd cc
  routed_short (reply.NotReadable h l) t = absurd cc

  pub route : (seq : ℕ) (r : Reply) → seq ≤ 2 ^ 62 → Routed r → Said me (body.Route seq r)
  route seq r s R =
      let short = routed_short r R.routed in
      let l = short.0 in
      record { form = λ _. (s, (R.routed, R.form)); fits = within n (body.Route seq r) (omega arith) (short.1 seq); plain = refl }

  -- an answer that a client may get
  pub record Answers (r : Reply) : Type 0 where
    pub form : a_reply.Form r
    pub length : reply_length r ≤ 600000
    pub lists : (id : ℕ) → short_lists (body.Reply id r) ≡ true

  pub routed_answers : (r : Reply) → Routed r → Answers r
  routed_answers r R = let short = routed_short r R.routed in let l = short.0 in record { form = R.form; length = omega arith; lists = short.2 }

  pub answer : (id : ℕ) (r : Reply) → id ≤ 2 ^ 62 → Answers r → Said me (body.Reply id r)
  answer id r k R = record { form = λ _. (k, R.form); fits = within n (body.Reply id r) (let l = R.length in omega arith) (R.lists id); plain = refl }

  -- ---- synchronization

  pub get_cookie_full : Said me body.GetCookieFull
  get_cookie_full = record { form = λ _. tt; fits = refl; plain = refl }

  pub get_cookie_recent : (l : ℕ) → l ≤ 2 ^ 62 → Said me (body.GetCookieRecent l)
  get_cookie_recent l k = record { form = λ _. k; fits = refl; plain = refl }

  abbrev pub IsCookie : Cookie → Type 0
  IsCookie c = parts.cookie.Form c

  abbrev pub IsPlace : Place → Type 0
  IsPlace p = parts.place.Form p

  pub cookie : (full : Bool) (c : Cookie) (l : ℕ) → IsCookie c → l ≤ 2 ^ 62 → Said me (body.Cookie full c l)
  cookie full c l k h = record { form = λ _. (tt, (k, h)); fits = refl; plain = refl }

  pub no_cookie : (c : Cookie) → IsCookie c → Said me (body.NoCookie c)
  no_cookie c k = record { form = λ _. k; fits = refl; plain = refl }
