-- How many bytes a hello has.
use Rattle.std.proofs.Common.{◌≡◌, ℕ, ◌+◌, ◌*◌, ◌≤◌, Bool, true, false, ◌&&◌, List, [], ◌∷◌, ◌++◌, length, IsTrue, refl, arith, length-append}
use Rattle.std.specs.List.{flat_map, AllByRecursion}
use Rattle.std.proofs.lemmas.Bool.Decides.{nat_tests}
use Rattle.mon_types.specs.Ranks.{to_bits}
use Rattle.mon_bytes.specs.Format.{u16_bytes}
use Rattle.mon_bytes.specs.Texts.{is_word}
use Rattle.election_rules.specs.declared.rule.Rule.{Rule}
use Rattle.election_rules.specs.declared.rule.Rule.TheVariants as rule
use Rattle.mon_link.specs.declared.udp.Address.{Address}
use Rattle.mon_hello.specs.declared.hello.Hello.{Hello}
use Rattle.mon_hello.specs.declared.identity.Identity.{Identity}
use Rattle.mon_hello.specs.Names.{is_quorum_name}
use Rattle.mon_hello.specs.Formats.{is_count, set_bytes, a_rule, an_address, address_text, an_identity, a_hello}

length-u16 : (n : ℕ) → length (u16_bytes n) ≡ 2
unfolding u16_bytes
length-u16 n = refl

length-rule : (r : Rule) → length (a_rule.text r) ≤ 3
unfolding set_bytes
length-rule rule.Classic = omega arith
length-rule (rule.Disallow s) = omega (arith, length-u16 (to_bits s))
length-rule (rule.Connectivity s) = omega (arith, length-u16 (to_bits s))

length-addresses : (xs : List Address) → AllByRecursion an_address.Form xs → length (flat_map address_text xs) ≡ 6 * length xs
length-addresses [] each = refl
length-addresses (x ∷ xs) each =
    omega (arith, length-append (address_text x) (flat_map address_text xs), length-append x.host (u16_bytes x.port), length-u16 x.port, each.0.0, length-addresses xs each.1)

both : (a b : Bool) → IsTrue (a && b) → IsTrue a × IsTrue b
both true b h = (refl, h)
both false b h = absurd cc

version_short : (v : List ℕ) → IsTrue (is_word 32 v) → length v ≤ 32
version_short v h = grind (arith, nat_tests)

name_short : (v : List ℕ) → IsTrue (is_quorum_name v) → length v ≤ 255
name_short v h = grind (arith, nat_tests)

count_small : (n : ℕ) → IsTrue (is_count n) → n ≤ 15
count_small n h = grind (arith, nat_tests)

length-identity : (i : Identity) → length (an_identity.text i) ≡ 2 + length i.name + length (a_rule.text i.rule)
length-identity i = omega (arith, length-append i.name (i.monitors ∷ a_rule.text i.rule))

pub hello_short : (h : Hello) → a_hello.Form h → length (a_hello.text h) ≤ 385
hello_short h form =
    let i = h.identity in
    let members = h.rank ∷ flat_map address_text h.addresses in
    omega (
      arith,
      length-append h.version (an_identity.text i ++ members),
      length-append (an_identity.text i) members,
      length-identity i,
      length-rule i.rule,
      length-addresses h.addresses form.1.1.1.1.1,
      form.1.1.1.1.0,
      version_short h.version form.1.0,
      name_short i.name form.1.1.0.0,
      count_small i.monitors form.1.1.0.1.0,
    )
