-- What each link hands up came on the link below.
use Rattle.std.proofs.Common.{◌≡◌, ℕ, Bool, true, false, cond, List, [], ◌∷◌, ◌++◌, Option, Some, None, Result, Ok, Err, refl, sym, ap, subst, inl, inr}
use Rattle.mon_link.specs.Histories.{Happened, received}
use Rattle.mon_link.specs.Histories.Happened.{Received, WasSent}
use Rattle.mon_link.specs.declared.link.Got.{Got}
use Rattle.mon_link.specs.declared.link.Got.TheVariants.{Datagram, Idle, Closed}
use Rattle.mon_link.specs.declared.link.Peer.TheVariants.{Monitor, Client}
use Rattle.mon_types.specs.declared.names.Stop.{Stop}
use Rattle.mon_hello.specs.Greets.{is_hello, passed as without_hellos, handed as greeted_up}
use Rattle.mon_hello.specs.Histories as greeting
use Rattle.mon_hello.specs.declared.own.Own.{Own}
use Rattle.mon_name.specs.Awake.{Gaps, unless_stood}
use Rattle.mon_name.specs.Frames.{unframed}
use Rattle.mon_name.specs.Histories as naming
use Rattle.mon_name.specs.Naming.{HandsOn, if_framed, off_got}
use Rattle.mon_resend.specs.Copied.{IsDatagram, IsOneOf}
use Rattle.mon_resend.specs.Histories as resending
use Rattle.mon_resend.specs.Sending.{isnt_handed_up}
use Rattle.mon_resend.specs.declared.copies.Copies.{Copies}
use Rattle.mon_resend.proofs.Parts.{one_right}
use Rattle.mon_watch.specs.Answering.{passed as without_watch, handed as watched_up}
use Rattle.mon_watch.specs.Histories as watching
use Rattle.mon_watch.specs.Requests.{is_watch}
use Rattle.stack_laws.specs.Stack.{Came, IsCome}
use Rattle.stack_laws.proofs.Passing.{came_left, came_right}

-- a datagram that is handed up came below
abbrev pub IsPassed : List Happened → Got → Type 0
IsPassed below got = IsDatagram got → Came below got

pub passed_left : (xs ys : List Happened) (got : Got) → IsPassed xs got → IsPassed (xs ++ ys) got
passed_left xs ys got h d = came_left xs ys got (h d)

pub passed_right : (xs ys : List Happened) (got : Got) → IsPassed ys got → IsPassed (xs ++ ys) got
passed_right xs ys got h d = came_right xs ys got (h d)

abbrev got_of : Result Got Stop → Got
got_of (Ok got) = got
got_of (Err e) = Idle

same_got : (a b : Got) → ◌≡◌ {A = Result Got Stop} (Ok a) (Ok b) → a ≡ b
same_got a b e = ap got_of e

-- the first answer of the link below
first_came : (calls rest : List Happened) (wait : ℕ) (came got : Got) → calls ≡ Received wait (Ok came) ∷ rest → came ≡ got → Came calls got
first_came calls rest wait came got are same = subst (λ (xs : List Happened). Came xs got) (sym are) (inl (ap (λ g. Ok g) (sym same)))

unless : (b : Bool) (other came got : Got) → (IsDatagram other → ⊥) → got ≡ cond b other came → IsDatagram got → came ≡ got
unless true other came got isnt e d = absurd (isnt (subst IsDatagram e d))
unless false other came got isnt e d = sym e

-- ---- the watch

not_watch : (came got : Got) → got ≡ without_watch came → IsDatagram got → came ≡ got
not_watch (Datagram from bytes) got e d = unless (is_watch bytes) Idle (Datagram from bytes) got (λ f. f) e d
not_watch Idle got e d = sym e
not_watch Closed got e d = sym e

pub watch_passes : (s t : watching.WatchState) (wait : ℕ) (got : Got) (calls : List Happened) → watching.WatchedDoes s (Received wait (Ok got)) calls t → IsPassed calls got
watch_passes s t wait got calls p d = by p.gave p.are p.after
  where
    up : (came : Got) (went : Result (Unit {0}) Stop) → Ok got ≡ watched_up came went → came ≡ got
    up came (Ok x) e = not_watch came got (same_got got (without_watch came) e) d
    up came (Err f) e = absurd cc

    by : (gave : Result Got Stop) → calls ≡ Received wait gave ∷ p.rest → watching.IsAskedAfter gave (Ok got) s t p.rest → Came calls got
    by (Ok came) are after = first_came calls p.rest wait came got are (up came after.went after.hands)
    by (Err e) are after = absurd cc

-- ---- copies

pub copies_pass : (s t : Copies) (wait : ℕ) (got : Got) (calls : List Happened) → resending.ResendingDoes s (Received wait (Ok got)) calls t → IsPassed calls got
copies_pass s t wait got calls p d = by p.gave p.are p.after
  where
    by : (gave : Result Got Stop) → calls ≡ Received p.slice gave ∷ p.rest → resending.IsAskedAfter gave (Ok got) s t p.rest → Came calls got
    by (Ok came) are after =
        first_came calls p.rest p.slice came got are
        (unless (isnt_handed_up came after.now s) Idle came got (λ f. f) (same_got got (cond (isnt_handed_up came after.now s) Idle came) after.hands_up) d)
    by (Err e) are after = absurd cc

-- ---- gaps

open_of : (b : Bool) (came got : Got) → ◌≡◌ {A = Result Got Stop} (Ok got) (cond b (Ok Closed) (Ok came)) → IsDatagram got → came ≡ got
open_of true came got e d = absurd (subst IsDatagram (same_got got Closed e) d)
open_of false came got e d = sym (same_got got came e)

pub awake_passes : (s t : Gaps) (wait : ℕ) (got : Got) (calls : List Happened) → naming.AwakeDoes s (Received wait (Ok got)) calls t → IsPassed calls got
awake_passes s t wait got calls p d = elim p.does [
  | inl closed ↦ absurd (subst IsDatagram (same_got got Closed closed.1) d)
  | inr asked ↦ by asked.1.gave asked.1.are asked.1.answer
]
  where
    by : (gave : Result Got Stop) → calls ≡ Received wait gave ∷ [] → Ok got ≡ unless_stood t.stood gave → Came calls got
    by (Ok came) are answer = first_came calls [] wait came got are (open_of t.stood came got answer d)
    by (Err e) are answer = absurd cc

-- ---- frames

all_received : (wait : ℕ) (answers : List (Result Got Stop)) → received (naming.asked wait answers) ≡ answers
all_received wait [] = refl
all_received wait (answer ∷ answers) = ap (λ (rs : List (Result Got Stop)). answer ∷ rs) (all_received 0 answers)

pub frames_pass : (tag : ℕ) (wait : ℕ) (got : Got) (calls : List Happened) → naming.IsAskedPast tag wait (Ok got) calls → IsCome tag calls got
frames_pass tag wait got calls p = handed p.last here p.hands
  where
    here : IsOneOf (received calls) p.last
    here = subst (λ (xs : List Happened). IsOneOf (received xs) p.last) (sym p.are)
        (subst (λ (rs : List (Result Got Stop)). IsOneOf rs p.last) (sym (all_received wait (p.past ++ p.last ∷ []))) (one_right p.past (p.last ∷ []) p.last (inl refl)))

    framed : (j : ℕ) (bytes : List ℕ) (o : Option (List ℕ)) → unframed tag bytes ≡ o → Came calls (Datagram (Monitor j) bytes) → got ≡ if_framed (Monitor j) o → IsCome tag calls got
    framed j bytes (Some x) is came e = subst (IsCome tag calls) (sym e) (bytes, is, came)
    framed j bytes None is came e = subst (IsCome tag calls) (sym e) tt

    off : (came : Got) → Came calls came → got ≡ off_got tag came → IsCome tag calls got
    off (Datagram (Monitor j) bytes) came e = framed j bytes (unframed tag bytes) refl came e
    off (Datagram (Client c) bytes) came e = subst (IsCome tag calls) (sym e) came
    off Idle came e = subst (IsCome tag calls) (sym e) tt
    off Closed came e = subst (IsCome tag calls) (sym e) tt

    handed : (last : Result Got Stop) → IsOneOf (received calls) last → HandsOn tag last (Ok got) → IsCome tag calls got
    handed (Ok came) at (inl is) = off came at (same_got got (off_got tag came) is)
    handed (Err e) at (inl is) = absurd cc
    handed last at (inr none) = absurd cc

pub named_passes : (n s t : naming.Names) → s ≡ n → (wait : ℕ) (got : Got) (calls : List Happened) → naming.NamedDoes s (Received wait (Ok got)) calls t → IsCome n.tag calls got
named_passes n s t e wait got calls p = subst (λ (m : naming.Names). IsCome m.tag calls got) e (frames_pass s.tag wait got calls p.0)

pub names_stay : (s t : naming.Names) (x : Happened) (calls : List Happened) → naming.NamedDoes s x calls t → t ≡ s
names_stay s t (Received wait result) calls p = p.1
names_stay s t (WasSent to bytes result) calls p = p.1

pub frames_left : (tag : ℕ) (xs ys : List Happened) (got : Got) → IsCome tag xs got → IsCome tag (xs ++ ys) got
frames_left tag xs ys (Datagram (Monitor j) x) h = (h.0, h.1, came_left xs ys (Datagram (Monitor j) h.0) h.2)
frames_left tag xs ys (Datagram (Client c) x) h = came_left xs ys (Datagram (Client c) x) h
frames_left tag xs ys Idle h = tt
frames_left tag xs ys Closed h = tt

pub frames_right : (tag : ℕ) (xs ys : List Happened) (got : Got) → IsCome tag ys got → IsCome tag (xs ++ ys) got
frames_right tag xs ys (Datagram (Monitor j) x) h = (h.0, h.1, came_right xs ys (Datagram (Monitor j) h.0) h.2)
frames_right tag xs ys (Datagram (Client c) x) h = came_right xs ys (Datagram (Client c) x) h
frames_right tag xs ys Idle h = tt
frames_right tag xs ys Closed h = tt

-- ---- hellos

no_hello : (came got : Got) → got ≡ without_hellos came → IsDatagram got → came ≡ got
no_hello (Datagram from bytes) got e d = unless (is_hello bytes) Idle (Datagram from bytes) got (λ f. f) e d
no_hello Idle got e d = sym e
no_hello Closed got e d = sym e

pub greeting_passes : (s t : Own) (wait : ℕ) (got : Got) (calls : List Happened) → greeting.GreetingDoes s (Received wait (Ok got)) calls t → IsPassed calls got
greeting_passes s t wait got calls p d = by p.0.gave p.0.are p.0.after
  where
    up : (came : Got) (went : Result (Unit {0}) Stop) → Ok got ≡ greeted_up came went → came ≡ got
    up came (Ok x) e = no_hello came got (same_got got (without_hellos came) e) d
    up came (Err f) e = absurd cc

    by : (gave : Result Got Stop) → calls ≡ Received wait gave ∷ p.0.rest → greeting.IsAskedAfter s gave (Ok got) p.0.rest → Came calls got
    by (Ok came) are (inl g) = first_came calls p.0.rest wait came got are (up came g.3 g.5)
    by (Ok came) are (inr none) = absurd cc
    by (Err e) are after = absurd cc
