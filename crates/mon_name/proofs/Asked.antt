-- The histories of a link that is asked past foreign datagrams.
use Rattle.std.proofs.Common.{◌≡◌, ◌≤◌, ℕ, ◌+◌, List, [], ◌∷◌, ◌++◌, length, true, false, Some, None, Result, Ok, Err, ◌⊎◌, refl, sym, ap, subst, ◌∙◌, inl, inr, arith}
use Rattle.std.specs.List.{AllByRecursion}
use Rattle.std.proofs.lemmas.List.{length-append}
use Rattle.mon_link.specs.Histories.{Happened}
use Rattle.mon_link.specs.Histories.Happened.{Received}
use Rattle.mon_link.specs.declared.link.Got.{Got}
use Rattle.mon_link.specs.declared.link.Got.TheVariants.{Idle}
use Rattle.mon_types.specs.declared.names.Stop.{Stop}
use Rattle.mon_name.specs.Histories.{IsAskedOnce, IsAskedPast, asked}
use Rattle.mon_name.specs.Naming.{HandsOn, IsOpened, is_foreign}
use Rattle.mon_name.specs.declared.named.TheConstants.{MOST_FOREIGN}
use Rattle.mon_name.proofs.Past.{foreign_idle}

-- `count` foreign datagrams came, and the next wait is `rest`.
pub record CameForeign (tag wait rest count : ℕ) (calls : List Happened) : Type 0 where
  pub past : List (Result Got Stop)
  pub are : calls ≡ asked wait past
  pub foreign : AllByRecursion (λ answer. is_foreign tag answer ≡ true) past
  pub count_is : length past ≡ count
  pub next : (answer : Result Got Stop) → asked wait (past ++ answer ∷ []) ≡ asked wait past ++ Received rest answer ∷ []

pub none_yet : (tag wait : ℕ) → CameForeign tag wait wait 0 []
none_yet tag wait = record { past = []; are = refl; foreign = tt; count_is = refl; next = λ answer. refl }

asked_again : (wait : ℕ) (past : List (Result Got Stop)) (gave answer : Result Got Stop) → asked wait ((past ++ gave ∷ []) ++ answer ∷ []) ≡ asked wait (past ++ gave ∷ []) ++ Received 0 answer ∷ []
asked_again wait [] gave answer = refl
asked_again wait (p ∷ past) gave answer = ap (λ (xs : List Happened). Received wait p ∷ xs) (asked_again 0 past gave answer)

all_more : (tag : ℕ) (past : List (Result Got Stop)) (gave : Result Got Stop) → AllByRecursion (λ a. is_foreign tag a ≡ true) past → is_foreign tag gave ≡ true → AllByRecursion (λ a. is_foreign tag a ≡ true) (past ++ gave ∷ [])
all_more tag [] gave all one = (one, tt)
all_more tag (p ∷ past) gave all one = (all.0, all_more tag past gave all.1 one)

was_foreign : (tag : ℕ) (gave : Result Got Stop) → IsOpened tag gave (Ok None) → is_foreign tag gave ≡ true
was_foreign tag (Ok got) opened = opened
was_foreign tag (Err e) opened = absurd cc

made : (wait rest : ℕ) (past : List (Result Got Stop)) (gave : Result Got Stop) (xs ys : List Happened)
    → xs ≡ asked wait past → ys ≡ Received rest gave ∷ [] → ((answer : Result Got Stop) → asked wait (past ++ answer ∷ []) ≡ asked wait past ++ Received rest answer ∷ [])
    → xs ++ ys ≡ asked wait (past ++ gave ∷ [])
made wait rest past gave xs ys e f next = ap (λ (zs : List Happened). zs ++ ys) e ∙ ap (λ (zs : List Happened). asked wait past ++ zs) f ∙ sym (next gave)

-- one more
pub one_more : (tag wait rest count : ℕ) (xs ys : List Happened) → CameForeign tag wait rest count xs → IsAskedOnce tag rest (Ok None) ys → CameForeign tag wait 0 (count + 1) (xs ++ ys)
one_more tag wait rest count xs ys came once = record {
  past = came.past ++ once.0 ∷ [];
  are = made wait rest came.past once.0 xs ys came.are once.1 came.next;
  foreign = all_more tag came.past once.0 came.foreign (was_foreign tag once.0 once.2);
  count_is = length-append came.past (once.0 ∷ []) ∙ ap (λ (n : ℕ). n + 1) came.count_is;
  next = asked_again wait came.past once.0;
}

-- the last one
ends : (tag wait rest count : ℕ) (result : Result Got Stop) (xs ys : List Happened) (gave : Result Got Stop) → CameForeign tag wait rest count xs → ys ≡ Received rest gave ∷ []
    → count ≤ MOST_FOREIGN → (is_foreign tag gave ≡ false) ⊎ (count ≡ MOST_FOREIGN) → HandsOn tag gave result → IsAskedPast tag wait result (xs ++ ys)
ends tag wait rest count result xs ys gave came is most last hands = record {
  past = came.past;
  last = gave;
  are = made wait rest came.past gave xs ys came.are is came.next;
  foreign = came.foreign;
  most = subst (λ (n : ℕ). n ≤ MOST_FOREIGN) (sym came.count_is) most;
  ends = elim last [ inl own ↦ inl own | inr all ↦ inr (came.count_is ∙ all) ];
  hands = hands;
}

pub ends_own : (tag wait rest count : ℕ) (x : Got) → count ≤ MOST_FOREIGN → (xs ys : List Happened) → CameForeign tag wait rest count xs → IsAskedOnce tag rest (Ok (Some x)) ys → IsAskedPast tag wait (Ok x) (xs ++ ys)
ends_own tag wait rest count x most xs ys came once = by once.0 once.1 once.2
  where
    by : (gave : Result Got Stop) → ys ≡ Received rest gave ∷ [] → IsOpened tag gave (Ok (Some x)) → IsAskedPast tag wait (Ok x) (xs ++ ys)
    by (Ok got) is own = ends tag wait rest count (Ok x) xs ys (Ok got) came is most (inl own.0) (inl (ap (λ y. Ok y) own.1))
    by (Err e) is own = absurd cc

pub ends_failed : (tag wait rest count : ℕ) (e : Stop) → count ≤ MOST_FOREIGN → (xs ys : List Happened) → CameForeign tag wait rest count xs → IsAskedOnce tag rest (Err e) ys → IsAskedPast tag wait (Err e) (xs ++ ys)
ends_failed tag wait rest count e most xs ys came once = by once.0 once.1 once.2
  where
    by : (gave : Result Got Stop) → ys ≡ Received rest gave ∷ [] → IsOpened tag gave (Err e) → IsAskedPast tag wait (Err e) (xs ++ ys)
    by (Ok got) is own = ends tag wait rest count (Err e) xs ys (Ok got) came is most (inl own.0) (inr (ap (λ f. Err f) own.1, tt))
    by (Err f) is same = ends tag wait rest count (Err e) xs ys (Err f) came is most (inl refl) (inl cc)

pub ends_foreign : (tag wait rest count : ℕ) → count ≡ MOST_FOREIGN → (xs ys : List Happened) → CameForeign tag wait rest count xs → IsAskedOnce tag rest (Ok None) ys → IsAskedPast tag wait (Ok Idle) (xs ++ ys)
ends_foreign tag wait rest count all xs ys came once = by once.0 once.1 once.2
  where
    by : (gave : Result Got Stop) → ys ≡ Received rest gave ∷ [] → IsOpened tag gave (Ok None) → IsAskedPast tag wait (Ok Idle) (xs ++ ys)
    by (Ok got) is foreign =
        ends tag wait rest count (Ok Idle) xs ys (Ok got) came is (omega (arith, all)) (inr all) (inl (sym (ap (λ y. Ok y) (foreign_idle tag got foreign))))
    by (Err e) is foreign = absurd cc
