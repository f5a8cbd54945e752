-- The file of a new journal, while it is made and then.
use Rattle.std.proofs.Common.{◌≡◌, ◌⊎◌, inl, ◌+◌, ◌≤◌, ◌<◌, ◌^◌, max, Bool, true, false, is_some, [], ◌∷◌, ◌++◌, length, List, ℕ, Option, Some, None, Bor, option_map, refl, ◌∙◌, subst, ap, arith, length-append}
use Rattle.std.specs.Option.{ForSome}
use Rattle.std.specs.Prelude.{IfSome}
use Rattle.mon_types.specs.declared.member.Member.{Member}
use Rattle.mon_disk.specs.Calls.{Observed}
use Rattle.mon_disk.specs.Images.{Content, images, TornFrom, LeavesOnly, Only, written}
use Rattle.mon_journal.specs.declared.journal.Journal.{Journal}
use Rattle.mon_journal.specs.Content.{Holds}
use Rattle.mon_journal.specs.Written.{first_record, first_payloads, head_bytes, header_bytes, owner_of, created}
use Rattle.mon_journal.specs.Steps.{ClosedFrom, CreatedFrom, made_more, Made, Keeps}
use Rattle.mon_journal.proofs.Counts.{count, few, more}
use Rattle.mon_disk.proofs.Following.{now}
use Rattle.mon_journal.proofs.Keeping.{keeps_by}
use Rattle.mon_journal.proofs.Headers.{IsShort, made, length-header}
use Rattle.mon_journal.proofs.Makes.{not_opening, shut_only, one_write, two_writes, three_writes, at_third, is_there}

pub is_short : (first : Option (Bor (List ℕ))) → ForSome first (λ payload. length payload.now < 2 ^ 32) → IsShort (option_map (λ payload. payload.now) first)
is_short None short payload e = absurd cc
is_short (Some bytes) short payload e = let same : bytes.now ≡ payload = cc in subst (λ (l : List ℕ). length l < 2 ^ 32) same (short bytes refl)

-- what a disk reads as is one of its images
pub reads_of : (x : Content) → IfSome x.seen (images x) → (file : List ℕ) → x.seen ≡ Some file → images x file
reads_of x h file e = subst (λ (t : Option (List ℕ)). IfSome t (images x)) e h

module _ (member : Member) (generation : ℕ) (first : Option (List ℕ)) (from_one : 1 ≤ generation) (most : generation ≤ 2 ^ 62) (short : IsShort first) where
  abbrev head : List ℕ
  head = head_bytes (owner_of member) generation first

  abbrev journal : Journal
  journal = created member generation first

  abbrev Q : List ℕ → Type 0
  Q = Holds journal (first_payloads first)

  is_made : (tail : List ℕ) → Q (1 ∷ (head ++ tail))
  is_made tail = made (owner_of member) generation first tail member.in_map member.most from_one most short

  pub long : length head ≡ journal.next_gate
  long = omega (arith, length-append (header_bytes (owner_of member) generation ++ first_record first) (0 ∷ []), length-append (header_bytes (owner_of member) generation) (first_record first), length-header (owner_of member) generation)

  long_more : journal.next_gate + 1 ≡ 1 + length head
  long_more = omega (arith, long)

  module _ (old : Content) (reads : (file : List ℕ) → old.seen ≡ Some file → images old file) where
    -- what the disk settles to
    abbrev pub Left : Bool → List ℕ → Type 0
    Left opening = Made old journal (first_payloads first) opening

    abbrev pub Shut : List ℕ → Type 0
    Shut c = images old c ⊎ ClosedFrom old (journal.next_gate + 1) c

    left_shut : (new : Content) → LeavesOnly old new Shut → (c : List ℕ) → images new c → Left false c
    left_shut new so_far c left = not_opening head Q is_made (journal.next_gate + 1) long_more old reads false refl c (now old new Shut so_far c left)

    -- no write yet
    pub none_settles : (observed : Option Observed) → IfSome observed (λ t. images old (t.settles t.made)) → IfSome observed (λ s. IfSome observed (λ t. Left (made_more 4 s t) (t.settles t.made)))
    none_settles observed settled = few 4 observed observed old Left (omega arith) (λ c left. not_opening head Q is_made (journal.next_gate + 1) long_more old reads false refl c (inl left)) settled

    module _ (c1 : Content) (one : LeavesOnly old c1 (TornFrom old 0 (0 ∷ []))) where
      closed : LeavesOnly old c1 Shut
      closed = one_write head Q is_made (journal.next_gate + 1) long_more old reads c1 one

      pub closing : LeavesOnly old c1 (CreatedFrom old journal (first_payloads first))
      closing = shut_only head Q is_made (journal.next_gate + 1) long_more old reads c1 closed

      pub closing_settles : (observed last : Option Observed) → count last ≤ count observed + 2 → IfSome last (λ t. images c1 (t.settles t.made)) → IfSome observed (λ s. IfSome last (λ t. Left (made_more 4 s t) (t.settles t.made)))
      closing_settles observed last most settled = few 4 observed last c1 Left (omega (arith, most)) (left_shut c1 closed) settled

      module _ (c2 : Content) (bytes : List ℕ) (is : bytes ≡ head) (seen1 : c1.seen ≡ written 0 (0 ∷ []) old.seen) (only1 : Only c1) (two : LeavesOnly c1 c2 (TornFrom c1 1 bytes)) where
        second : LeavesOnly c1 c2 (TornFrom c1 1 head)
        second = subst (λ (b : List ℕ). LeavesOnly c1 c2 (TornFrom c1 1 b)) is two

        headed : LeavesOnly old c2 Shut
        headed = two_writes head Q is_made (journal.next_gate + 1) long_more old reads c1 c2 one seen1 only1 second

        pub heading : LeavesOnly old c2 (CreatedFrom old journal (first_payloads first))
        heading = shut_only head Q is_made (journal.next_gate + 1) long_more old reads c2 headed

        pub heading_settles : (observed last : Option Observed) → count last ≤ count observed + 4 → IfSome last (λ t. images c2 (t.settles t.made)) → IfSome observed (λ s. IfSome last (λ t. Left (made_more 4 s t) (t.settles t.made)))
        heading_settles observed last most settled = few 4 observed last c2 Left most (left_shut c2 headed) settled

        module _ (c3 : Content) (seen2 : c2.seen ≡ written 1 bytes c1.seen) (only2 : Only c2) (three : LeavesOnly c2 c3 (TornFrom c2 0 (1 ∷ []))) where
          whole : c2.seen ≡ written 1 head c1.seen
          whole = seen2 ∙ ap (λ (b : List ℕ). written 1 b c1.seen) is

          pub opening : LeavesOnly old c3 (CreatedFrom old journal (first_payloads first))
          opening = three_writes head Q is_made (journal.next_gate + 1) long_more old reads c1 c2 c3 one seen1 only1 second whole only2 three

          pub opening_settles : (observed mid last : Option Observed) → (is_some observed ≡ true → count mid ≡ count observed + 4) → (is_some observed ≡ true → (last ≡ mid) ⊎ (count mid < count last))
              → IfSome mid (λ s. last ≡ Some s → LeavesOnly c2 c3 (images c2)) → IfSome last (λ t. images c3 (t.settles t.made)) → IfSome observed (λ s. IfSome last (λ t. Left (made_more 4 s t) (t.settles t.made)))
          opening_settles observed mid last all either none settled =
              more 4 observed mid last c3 Left (LeavesOnly c2 c3 (images c2)) all either none (at_third head Q is_made (journal.next_gate + 1) long_more old reads c1 c2 c3 one seen1 only1 second whole only2 three) settled

    pub is_kept : (c1 c2 c3 : Content) (bytes : List ℕ) (known1 known2 known3 : ℕ) → bytes ≡ head → c1.seen ≡ written 0 (0 ∷ []) old.seen → c2.seen ≡ written 1 bytes c1.seen → c3.seen ≡ written 0 (1 ∷ []) c2.seen → Only c3
        → 1 + length bytes < 2 ^ 64 → known2 ≡ max known1 (1 + length bytes) → known3 ≡ max known2 1 → Keeps journal (first_payloads first) known3 c3
    is_kept c1 c2 c3 bytes known1 known2 known3 is seen1 seen2 seen3 only end reach2 reach3 =
        keeps_by journal (first_payloads first) known3 c3 only
        (is_there head Q is_made (journal.next_gate + 1) long_more old reads c1 c2 c3 seen1 (seen2 ∙ ap (λ (b : List ℕ). written 1 b c1.seen) is) seen3)
        (omega (arith, ap length is, long, reach2, reach3))
        (omega (arith, ap length is, long, end))
