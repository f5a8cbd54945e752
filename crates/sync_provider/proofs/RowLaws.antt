-- What the rows of a provider do to an event under way.
use Rattle.std.proofs.Common.{◌≡◌, ℕ, suc, ◌≤◌, ◌<◌, ◌^◌, Bool, true, false, not, ◌||◌, cond, ltb, List, [], ◌∷◌, Some, None, Result, Ok, Err, IsTrue, refl, ap, subst, ◌∙◌}
use Rattle.std.specs.List.{filter}
use Rattle.std.specs.Prelude.{slice_set, slice_index_or}
use Rattle.std.proofs.lemmas.Bool.{le-leb, lt-leb}
use Rattle.mon_bytes.specs.declared.entry.Entry.{Entry}
use Rattle.mon_msg.specs.Protocol.Course.{Course, provider_is}
use Rattle.mon_msg.specs.Protocol.Hearing.{hear}
use Rattle.mon_msg.specs.Protocol.Places.{is_after, is_cookie, no_cookie}
use Rattle.mon_msg.specs.Protocol.Providing.{chunk, grant, hear_get_chunk, hear_get_cookie_full, hear_get_cookie_recent}
use Rattle.mon_msg.specs.Protocol.Readings.{Readings, epoch_of}
use Rattle.mon_msg.specs.Protocol.Sending.{message_to, send}
use Rattle.mon_msg.specs.declared.plan.Next.TheVariants as next
use Rattle.mon_msg.specs.declared.plan.Plan.{Plan}
use Rattle.mon_msg.specs.declared.plan.Sent.{Sent}
use Rattle.mon_msg.specs.declared.synchronization.Provider.{Provider}
use Rattle.mon_msg.specs.declared.view.Me.{Me}
use Rattle.mon_plan.specs.Plans.{done}
use Rattle.mon_types.specs.declared.names.Which.TheVariants as which
use Rattle.mon_types.specs.declared.names.Which.{Which}
use Rattle.mon_wire.specs.declared.body.Body.TheVariants as body
use Rattle.mon_wire.specs.declared.body.Body.{Body}
use Rattle.mon_wire.specs.declared.parts.Cookie.{Cookie}
use Rattle.mon_wire.specs.declared.parts.Place.{Place}
use Rattle.sync_provider.specs.Rows.{is_asked, Holds}

-- a plan that only sends
abbrev pub plan_of : List Sent → Provider → Plan Provider
plan_of ms s = record { tx = []; out = ms; timers = []; state = s; next = next.Stay }

-- one that sends one message
abbrev pub says : Sent → Provider → Plan Provider
says m s = plan_of (m ∷ []) s

abbrev pub cookie_of : Readings → Provider → Cookie
cookie_of w s = record { boot = w.boot; seq = s.next_cookie }

abbrev pub with_cookie : (of : ℕ) → Cookie → Provider → Provider
with_cookie of c s = record { cookies = slice_set s.cookies of (Some c); next_cookie = suc s.next_cookie }

-- whether nothing is given
abbrev pub refused_by : (f : ℕ) → Cookie → Place → Readings → Provider → Bool
refused_by f c p w s = not (is_cookie c (slice_index_or s.cookies f None)) || ltb (suc p.version) w.first

module _ (w : Readings) (s : Provider) (x : Course) (b : Holds w s x) (me : Me) (f : ℕ) where
  along : (P : Readings → Provider → Type 0) → P x.readings x.state.provider → P w s
  along P h = subst (λ (r : Provider). P w r) b.role (subst (λ (r : Readings). P r x.state.provider) b.readings h)

  -- ---- an answer

  abbrev pub sends : Body → Result Course Which
  sends a = Ok (send me f a x)

  pub answers : (a : Body) → sends a ≡ Ok (done provider_is [] (says (message_to me (epoch_of w) a f) s) x)
  answers a = along (λ w s. sends a ≡ Ok (done provider_is [] (says (message_to me (epoch_of w) a f) s) x)) refl

  -- ---- a cookie

  pub grant-spent : (full : Bool) → 2 ^ 62 < s.next_cookie → grant me full f x ≡ Err which.Cookie
  grant-spent full above = along (λ w s. 2 ^ 62 < s.next_cookie → grant me full f x ≡ Err which.Cookie) (λ above. let t = lt-leb x.state.provider.next_cookie (2 ^ 62) above in rw t refl) above

  abbrev grants : Bool → Readings → Provider → Type 0
  grants full w s =
      grant me full f x
      ≡ Ok (done provider_is [] (says (message_to me (epoch_of w) (body.Cookie full (cookie_of w s) w.last) f) (with_cookie f (cookie_of w s) s)) x)

  pub grant-given : (full : Bool) → s.next_cookie ≤ 2 ^ 62 → grants full w s
  grant-given full low = along (λ w s. s.next_cookie ≤ 2 ^ 62 → grants full w s) (λ low. let t = le-leb x.state.provider.next_cookie (2 ^ 62) low in rw t refl) low

  -- ---- rows of a monitor that isn't marked

  module _ (unmarked : w.marked ≡ false) where
    marks : x.readings.marked ≡ false
    marks = ap (λ (r : Readings). r.marked) b.readings ∙ unmarked

    pub full-grants : hear_get_cookie_full me f x ≡ grant me true f x
    unfolding hear_get_cookie_full
    full-grants = let t = marks in rw t refl

    lacks_is : (v : ℕ) (test : Bool) → ltb (suc v) w.first ≡ test → ltb (suc v) x.readings.first ≡ test
    lacks_is v test h = ap (λ (r : Readings). ltb (suc v) r.first) b.readings ∙ h

    pub recent-refused : (last : ℕ) → ltb (suc last) w.first ≡ true → hear_get_cookie_recent me f last x ≡ Ok (send me f (body.NoCookie no_cookie) x)
    unfolding hear_get_cookie_recent
    recent-refused last h = let t = marks in let u = lacks_is last true h in rw (t, u) refl

    pub recent-grants : (last : ℕ) → ltb (suc last) w.first ≡ false → hear_get_cookie_recent me f last x ≡ grant me false f x
    unfolding hear_get_cookie_recent
    recent-grants last h = let t = marks in let u = lacks_is last false h in rw (t, u) refl

    module _ (shared : List Entry) (c : Cookie) (p : Place) where
      refused_is : (test : Bool) → refused_by f c p w s ≡ test → refused_by f c p x.readings x.state.provider ≡ test
      refused_is test h = (λ i. refused_by f c p (b.readings i) (b.role i)) ∙ h

      abbrev pub sent : Readings → Body
      sent w = chunk w.last c p (filter (is_after p.key) shared) me.member.monitors w.record_of

      abbrev chosen : Bool → Bool → Result Course Which
      chosen marked refusal = cond marked (Ok x) (cond refusal (sends (body.NoCookie c)) (sends (sent x.readings)))

      choice : (test : Bool) → refused_by f c p w s ≡ test → hear_get_chunk me shared f c p x ≡ chosen false test
      unfolding hear_get_chunk
      choice test h = λ i. chosen (marks i) (refused_is test h i)

      pub chunk-refused : refused_by f c p w s ≡ true → hear_get_chunk me shared f c p x ≡ sends (body.NoCookie c)
      chunk-refused h = choice true h

      pub chunk-sent : refused_by f c p w s ≡ false → hear_get_chunk me shared f c p x ≡ sends (sent w)
      chunk-sent h = choice false h ∙ (λ i. sends (sent (b.readings i)))

  -- ---- a monitor that is marked drops what it is asked

  pub hear-dropped : w.marked ≡ true → (shared : List Entry) (now e : ℕ) (a : Body) → IsTrue (is_asked a) → hear me shared now f e a x ≡ Ok x
  unfolding hear_get_cookie_full hear_get_cookie_recent hear_get_chunk
  hear-dropped marked shared now e a asked = by a asked (ap (λ (r : Readings). r.marked) b.readings ∙ marked)
    where
      by : (a : Body) → IsTrue (is_asked a) → x.readings.marked ≡ true → hear me shared now f e a x ≡ Ok x
      by body.GetCookieFull h t = rw t refl
      by (body.GetCookieRecent last) h t = rw t refl
      by (body.GetChunk c p) h t = rw t refl
      by other h t = let no : false ≡ true = h in absurd cc
