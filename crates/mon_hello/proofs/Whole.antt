-- A hello is read from its encoding alone.
use Rattle.std.proofs.Common.{◌≡◌, ℕ, ltb, eqb, Bool, true, false, IsTrue, List, [], Ok, None, refl, sym, ap, ◌∙◌, arith}
use Rattle.std.proofs.lemmas.Bool.Decides.{nat_tests}
use Rattle.std.proofs.lemmas.List.{append-nil}
use Rattle.mon_bytes.specs.Reading.{IsBytes, Reading}
use Rattle.mon_bytes.specs.Format.{IsLawful, ◌⊗◌, dependent}
use Rattle.mon_bytes.specs.Forms.{whole}
use Rattle.mon_bytes.specs.Texts.{is_word}
use Rattle.mon_bytes.proofs.Fields.{ok_is}
use Rattle.mon_bytes.proofs.Formats.{dependent-lawful, seen_as-lawful, as_parts-lawful}
use Rattle.mon_bytes.proofs.Forms.{whole_takes, whole_again}
use Rattle.mon_link.specs.declared.link.Got.TheVariants.{Datagram}
use Rattle.mon_link.specs.declared.link.Peer.TheVariants.{Client}
use Rattle.mon_hello.specs.declared.hello.Hello.{Hello}
use Rattle.mon_hello.specs.declared.hello.TheConstants.{ANSWER_MARK, MOST_VERSION}
use Rattle.mon_hello.specs.declared.identity.Identity.{Identity}
use Rattle.mon_hello.specs.Names.{is_quorum_name}
use Rattle.mon_hello.specs.Formats.{byte, counted, is_count, a_rule, identity_of, identity_parts, an_identity, answering, is_mark, mark, mark_of, members, all_addresses, hello_from, hello_parts, a_hello, hello_of}
use Rattle.mon_hello.specs.Greets.{asker}
use Rattle.mon_hello.proofs.Fields.{byte-lawful, counted-lawful, rule-lawful, addresses-lawful}

sized-lawful : IsLawful (byte is_count ⊗ a_rule)
sized-lawful = dependent-lawful (byte is_count) (λ n. a_rule) (byte-lawful is_count) (λ n. rule-lawful)

pub identity_is_lawful : IsLawful an_identity
identity_is_lawful =
    as_parts-lawful (counted is_quorum_name ⊗ byte is_count ⊗ a_rule) identity_of identity_parts
    (dependent-lawful (counted is_quorum_name) (λ x. byte is_count ⊗ a_rule) (counted-lawful is_quorum_name) (λ x. sized-lawful)) (λ x. refl) (λ y. refl)

mark_back : (n : ℕ) → IsTrue (is_mark n) → mark_of (eqb n ANSWER_MARK) ≡ n
mark_back n form = grind (arith, nat_tests)

mark_again : (answers : Bool) → (eqb (mark_of answers) ANSWER_MARK ≡ answers) × IsTrue (is_mark (mark_of answers))
mark_again true = (refl, refl)
mark_again false = (refl, refl)

mark-lawful : IsLawful mark
mark-lawful =
    seen_as-lawful (byte is_mark) (λ n. eqb n ANSWER_MARK) mark_of (λ answers. Unit {0}) (byte-lawful is_mark)
    (λ n form. (mark_back n form, tt)) (λ answers form. mark_again answers)

members-lawful : (n : ℕ) → IsLawful (members n)
members-lawful n = dependent-lawful (byte (λ rank. ltb rank n)) (λ x. all_addresses n) (byte-lawful (λ rank. ltb rank n)) (λ x. addresses-lawful n)

of_quorum-lawful : IsLawful (dependent an_identity (λ i. members i.monitors))
of_quorum-lawful = dependent-lawful an_identity (λ i. members i.monitors) identity_is_lawful (λ i. members-lawful i.monitors)

versioned-lawful : IsLawful (counted (is_word MOST_VERSION) ⊗ dependent an_identity (λ i. members i.monitors))
versioned-lawful =
    dependent-lawful (counted (is_word MOST_VERSION)) (λ x. dependent an_identity (λ i. members i.monitors)) (counted-lawful (is_word MOST_VERSION)) (λ x. of_quorum-lawful)

pub hello_is_lawful : IsLawful a_hello
hello_is_lawful =
    as_parts-lawful (mark ⊗ counted (is_word MOST_VERSION) ⊗ dependent an_identity (λ i. members i.monitors)) hello_from hello_parts
    (dependent-lawful mark (λ x. counted (is_word MOST_VERSION) ⊗ dependent an_identity (λ i. members i.monitors)) mark-lawful (λ x. versioned-lawful)) (λ x. refl) (λ y. refl)

pub hello_is_whole : (bytes : List ℕ) → hello_of bytes ≡ whole a_hello bytes
hello_is_whole bytes = refl

pub hello_again : (h : Hello) → a_hello.Form h → hello_of (a_hello.text h) ≡ Ok h
hello_again h form = whole_again a_hello hello_is_lawful h form

pub answer_ends : (h : Hello) (c : ℕ) → a_hello.Form h → asker (Datagram (Client c) (a_hello.text (answering h))) ≡ None
answer_ends h c form = rw (hello_again (answering h) form) refl

pub hello_only : (bytes : List ℕ) (h : Hello) → IsBytes bytes → hello_of bytes ≡ Ok h → a_hello.Form h × (bytes ≡ a_hello.text h)
hello_only bytes h fits e = whole_takes a_hello hello_is_lawful bytes h fits e

pub identities_apart : (a b : Identity) → an_identity.Form a → an_identity.Form b → an_identity.text a ≡ an_identity.text b → a ≡ b
identities_apart a b of_a of_b same =
    let c : Reading = record { at = 0; rest = an_identity.text a } in
    let x = identity_is_lawful.found c a [] (sym (append-nil (an_identity.text a))) of_a in
    let y = identity_is_lawful.found c b [] (same ∙ sym (append-nil (an_identity.text b))) of_b in
    let both : ◌≡◌ {A = _} (a, x.0) (b, y.0) = ok_is (a, x.0) (b, y.0) (sym x.2 ∙ y.2) in
    ap (λ (p : Identity × Reading). p.0) both
