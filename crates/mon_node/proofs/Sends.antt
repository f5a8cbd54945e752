-- A link is asked to send datagrams, one after the other.
use Rattle.std.proofs.Common.{◌≡◌, ℕ, ◌+◌, min, map, List, [], ◌∷◌, ◌++◌, length, take, Result, Err, refl, sym, subst, ◌∙◌, append_assoc, arith}
use Rattle.std.proofs.Math.Seq.{take-append-add, take-append_seam}
use Rattle.std.proofs.lemmas.List.{append-nil, map-append, take_min, take-append-le}
use Rattle.std.specs.List.{AllByRecursion}
use Rattle.log_model.proofs.Lists.{all_append}
use Rattle.mon_link.specs.Histories.{Happened, GoOn}
use Rattle.mon_link.specs.Histories.Happened.{WasSent}
use Rattle.mon_link.specs.declared.link.Outgoing.{Outgoing}
use Rattle.mon_types.specs.declared.names.Stop.TheVariants.{OutOfMemory}
use Rattle.mon_types.specs.declared.names.Stop.{Stop}
use Rattle.mon_node.specs.Sends.{EndsAtWant, HadMemory, Send, Went, WentFirst, call_of, outgoing_of}

abbrev History : Type 1
History = List Happened → Type 0

-- ---- histories that go on

pub no_call : (P : History) → GoOn P [] P
no_call P h p = subst P (sym (append-nil h)) p

pub go_further : (P Q R : History) (xs ys : List Happened) → GoOn P xs Q → GoOn Q ys R → GoOn P (xs ++ ys) R
go_further P Q R xs ys f g h p = subst R (append_assoc h xs ys) (g (h ++ xs) (f h p))

pub go_as : (P Q : History) (xs ys : List Happened) → xs ≡ ys → GoOn P xs Q → GoOn P ys Q
go_as P Q xs ys is f = subst (λ (zs : List Happened). GoOn P zs Q) is f

-- ---- what was sent

want_after : (s : Send) (sends : List Send) → HadMemory s → EndsAtWant sends → EndsAtWant (s ∷ sends)
want_after s [] had h = tt
want_after s (t ∷ sends) had h = (had, h)

wants_after : (xs ys : List Send) → AllByRecursion HadMemory xs → EndsAtWant ys → EndsAtWant (xs ++ ys)
wants_after [] ys all h = h
wants_after (x ∷ xs) ys all h = want_after x (xs ++ ys) all.0 (wants_after xs ys all.1 h)

no_want : (xs : List Send) → AllByRecursion HadMemory xs → EndsAtWant xs
no_want [] all = tt
no_want (x ∷ xs) all = want_after x xs all.0 (no_want xs all.1)

pub none_went : (P : History) → Went [] P P
none_went P = record { sends = []; are = record { all = refl; had = tt }; goes_on = no_call P }

pub none_first : (ds : List Outgoing) (P : History) → WentFirst ds P P
none_first ds P = record { sends = []; are = record { count = 0; first = refl; had = tt }; goes_on = no_call P }

-- one datagram
module _ (d : Outgoing) (a : Result (Unit {0}) Stop) (P Q : History) (asks : GoOn P (WasSent d.to d.bytes a ∷ []) Q) where
  abbrev one : List Send
  one = record { datagram = d; answer = a } ∷ []

  pub one_went : ¬ (a ≡ Err OutOfMemory) → Went (d ∷ []) P Q
  one_went had = record { sends = one; are = record { all = refl; had = (had, tt) }; goes_on = asks }

  pub one_wants : WentFirst (d ∷ []) P Q
  one_wants = record { sends = one; are = record { count = 1; first = refl; had = tt }; goes_on = asks }

module _ (ds es : List Outgoing) (P Q R : History) (went : Went ds P Q) where
  calls_on : (more : List Send) → GoOn Q (map call_of more) R → GoOn P (map call_of (went.sends ++ more)) R
  calls_on more g =
      go_as P R (map call_of went.sends ++ map call_of more) (map call_of (went.sends ++ more)) (sym (map-append call_of went.sends more))
      (go_further P Q R (map call_of went.sends) (map call_of more) went.goes_on g)

  outgoing_on : (more : List Send) (xs : List Outgoing) → outgoing_of more ≡ xs → outgoing_of (went.sends ++ more) ≡ ds ++ xs
  outgoing_on more xs is = map-append (λ (s : Send). s.datagram) went.sends more ∙ (λ i. went.are.all i ++ is i)

  pub went_more : Went es Q R → Went (ds ++ es) P R
  went_more more = record {
    sends = went.sends ++ more.sends;
    are = record { all = outgoing_on more.sends es more.are.all; had = all_append HadMemory went.sends more.sends went.are.had more.are.had };
    goes_on = calls_on more.sends more.goes_on;
  }

  pub first_more : WentFirst es Q R → WentFirst (ds ++ es) P R
  first_more more = record {
    sends = went.sends ++ more.sends;
    are = record {
      count = length ds + more.are.count;
      first = outgoing_on more.sends (take more.are.count es) more.are.first ∙ sym (take-append-add ds es more.are.count);
      had = wants_after went.sends more.sends went.are.had more.are.had;
    };
    goes_on = calls_on more.sends more.goes_on;
  }

pub first_whole : (ds es : List Outgoing) (P Q : History) → WentFirst ds P Q → WentFirst (ds ++ es) P Q
first_whole ds es P Q went =
    let n : ℕ = went.are.count in
    let k : ℕ = min n (length ds) in
    let same : take n ds ≡ take k (ds ++ es) = sym (take_min n ds) ∙ sym (take-append-le k ds es (omega arith)) in
    record { sends = went.sends; are = record { count = k; first = went.are.first ∙ same; had = went.are.had }; goes_on = went.goes_on }

-- no call was made then
pub first_still : (ds : List Outgoing) (P Q R : History) → WentFirst ds P Q → ((h : List Happened) → Q h → R h) → WentFirst ds P R
first_still ds P Q R went still = record { sends = went.sends; are = went.are; goes_on = λ h p. still (h ++ map call_of went.sends) (went.goes_on h p) }

pub went_first : (ds es : List Outgoing) (P Q : History) → Went ds P Q → WentFirst (ds ++ es) P Q
went_first ds es P Q went = record {
  sends = went.sends;
  are = record { count = length ds; first = went.are.all ∙ sym (take-append_seam ds es); had = no_want went.sends went.are.had };
  goes_on = went.goes_on;
}
