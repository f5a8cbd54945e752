-- Which arguments are those of a task.
use Rattle.std.proofs.Common.{◌≡◌, ◌==◌, ℕ, suc, ◌≤◌, ◌+◌, ◌^◌, Bool, true, false, List, [], ◌∷◌, length, map, Option, Some, None, is_some, String, string_bytes, codes, decimal, refl, sym, ap, subst, ◌∙◌, arith}
use Rattle.std.specs.Prelude.{IfSome, is_ok}
use Rattle.std.specs.declared.alloc.Global.{Global}
use Rattle.std.specs.List.{AllByRecursion, list_all}
use Rattle.std.proofs.lemmas.Bool.Decides.{nat_tests}
use Rattle.std.proofs.lemmas.Fmt.{decimal_injective}
use Rattle.std.proofs.lemmas.List.Folds.{list_all-map}
use Rattle.election_rules.specs.declared.rule.Rule.{Rule}
use Rattle.mon_link.specs.declared.udp.Address.{Address}
use Rattle.mon_types.specs.declared.member.Member.{Member}
use Rattle.mon_wire.specs.declared.request.Service.{Service}
use Rattle.schedule_text.specs.Encoding.{RuleFits, rule_text}
use Rattle.schedule_text.specs.Words.{service_text}
use Rattle.task_words.specs.Addresses.{IsAddress, addresses_of, addresses_text, commas}
use Rattle.task_words.specs.Task.{AreStore, IsAsked, ParsesTask, is_word, most_made}
use Rattle.task_words.specs.Words.{Parses, Reflects}
use Rattle.task_words.proofs.AddressLaws.{addresses_there, commas_between, no_addresses}
use Rattle.task_words.proofs.TaskKinds.{Kind, Parsed, Replays, Compares, Makes, Serves, Follows, Scrubs, DumpsKeys, DumpsPaxos, Exports, Imports, name_by, named, parsed, parses}
use Rattle.task_words.proofs.NumberLaws.{last_reflects}
use Rattle.task_words.proofs.Parsed.{WithFiles}
use Rattle.task_words.proofs.Unique.{node_by_text, store_by_text, versions_by_text}

-- ---- all of them

-- each of some arguments is one
abbrev pub all_words : List (String Global) → Bool
all_words words = list_all (λ w. is_word (string_bytes w)) words

pub no_words : (words : List (String Global)) (test : Bool) → test ≡ all_words words → test ≡ false → ¬ (IsAsked words)
no_words words test is fails asked =
    let each = asked.1.each in
    let same = list_all-map is_word string_bytes words in
    cc

-- a test of arguments, each of which is one
pub reflects_asked : (words : List (String Global)) (others : List (List ℕ)) (each test : Bool) → each ≡ all_words words → each ≡ true → map string_bytes words ≡ others
    → Reflects test (ParsesTask others) → Reflects test (IsAsked words)
reflects_asked words others each true is holds same parses =
    (parses.0, record { has = parses.1.0; are = same ∙ parses.1.1; each = list_all-map is_word string_bytes words ∙ sym is ∙ holds })
reflects_asked words others each false is holds same none = λ asked. none (asked.0, (asked.1.has, sym same ∙ asked.1.are))

-- ---- those of one kind

pub reflects_both : (test : Bool) (A B : Type 0) → (A → B) → (B → A) → Reflects test A → Reflects test B
reflects_both true A B to from reflects = to reflects
reflects_both false A B to from none = λ b. none (from b)

parsed_by : (k : Kind) (texts : List (List ℕ)) → ParsesTask (name_by k ∷ texts) → Parsed k texts
parsed_by k texts s = subst (λ (j : Kind). Parsed j texts) (named k) (parsed (name_by k) texts s)

pub no_kind : (k : Kind) (texts : List (List ℕ)) → ¬ (Parsed k texts) → ¬ (ParsesTask (name_by k ∷ texts))
no_kind k texts none s = none (parsed_by k texts s)

reflects_kind : (k : Kind) (texts : List (List ℕ)) (test : Bool) → Reflects test (Parsed k texts) → Reflects test (ParsesTask (name_by k ∷ texts))
reflects_kind k texts test reflects = reflects_both test (Parsed k texts) (ParsesTask (name_by k ∷ texts)) (parses k texts) (parsed_by k texts) reflects

-- ---- commands with no texts

not_zero : (n : ℕ) → (suc n == 0) ≡ false
not_zero n = grind (arith, nat_tests)

nothing_more : (text : List ℕ) (others : List (List ℕ)) → text ∷ others ≡ [] → ⊥
nothing_more text others is = absurd cc

pub reflects_replay : (texts : List (String Global)) (test : Bool) → test ≡ (length texts == 0) → Reflects test (ParsesTask (codes "replay" ∷ map string_bytes texts))
reflects_replay [] test is = subst (λ (b : Bool). Reflects b (ParsesTask (codes "replay" ∷ []))) (sym is) (parses Replays [] (record { fields = tt; has = tt; are = refl }))
reflects_replay (t ∷ ts) test is =
    subst (λ (b : Bool). Reflects b (ParsesTask (codes "replay" ∷ map string_bytes (t ∷ ts)))) (sym (is ∙ not_zero (length ts))) (no_kind Replays (map string_bytes (t ∷ ts)) (λ s. nothing_more _ _ s.are))

pub reflects_compare : (texts : List (String Global)) (test : Bool) → test ≡ (length texts == 0) → Reflects test (ParsesTask (codes "scrub-compare" ∷ map string_bytes texts))
reflects_compare [] test is = subst (λ (b : Bool). Reflects b (ParsesTask (codes "scrub-compare" ∷ []))) (sym is) (parses Compares [] (record { fields = tt; has = tt; are = refl }))
reflects_compare (t ∷ ts) test is =
    subst (λ (b : Bool). Reflects b (ParsesTask (codes "scrub-compare" ∷ map string_bytes (t ∷ ts)))) (sym (is ∙ not_zero (length ts))) (no_kind Compares (map string_bytes (t ∷ ts)) (λ s. nothing_more _ _ s.are))

-- ---- `made`

two_by_text : (a b c d : List ℕ) → ◌≡◌ {A = List (List ℕ)} (a ∷ b ∷ []) (c ∷ d ∷ []) → (a ≡ c) × (b ≡ d)
two_by_text a b c d same = (cc, cc)

pub reflects_made : (texts : List (List ℕ)) (x y : List ℕ) (n : ℕ) (o : Option ℕ) (test : Bool) → texts ≡ x ∷ y ∷ [] → x ≡ decimal n → n ≤ 2 ^ 62
    → Parses decimal (λ e. (1 ≤ e) × (e ≤ most_made)) o y → test ≡ is_some o → Reflects test (ParsesTask (codes "made" ∷ texts))
reflects_made texts x y n o test are first low second is =
    reflects_kind Makes texts test (last_reflects ℕ decimal (λ e. (1 ≤ e) × (e ≤ most_made)) y o test (Parsed Makes texts) second is
    (λ e fits y_is. record { fields = (n, e); has = (low, fits.0, fits.1); are = are ∙ (λ i. first i ∷ y_is i ∷ []) })
    (λ other s. other s.fields.1 (s.has.1, s.has.2) (two_by_text _ _ _ _ (sym are ∙ s.are)).1))

-- ---- `node`

-- there is one number of monitors
same_count : (y : List ℕ) (m k : Member) → y ≡ decimal k.monitors → y ≡ decimal m.monitors → m.monitors ≡ k.monitors
same_count y m k read parsed =
    decimal_injective m.monitors k.monitors (omega (arith, m.most)) (omega (arith, k.most)) (sym parsed ∙ read)

module _ (texts : List (List ℕ)) (v w x y z : List ℕ) (files : WithFiles (v ∷ w ∷ x ∷ y ∷ []) (z ∷ []) texts) where
  pub node_without : ((m : Member) (r : Rule) (places : List Address) (n : ℕ) → RuleFits m.monitors r → length places ≡ m.monitors → AllByRecursion IsAddress places
      → (1 ≤ n) × (n ≤ 2 ^ 62) → v ≡ decimal m.rank → w ≡ decimal m.monitors → x ≡ rule_text r → y ≡ addresses_text places → z ≡ decimal n → ⊥)
      → ¬ (Parsed Serves texts)
  node_without none s =
      let t = node_by_text _ _ _ _ _ _ _ _ _ _ _ _ _ _ (sym files.are ∙ s.are) in
      none s.fields.0 s.fields.1 s.fields.2 s.fields.5 s.has.0 s.has.1 s.has.2 (s.has.3, s.has.4) t.ranks t.counts t.rules t.all_addresses t.all_turns

  module _ (k : Member) (ranks : v ≡ decimal k.rank) (counts : w ≡ decimal k.monitors) where
    pub node_without_rule : ((r : Rule) → RuleFits k.monitors r → ¬ (x ≡ rule_text r)) → ¬ (ParsesTask (codes "node" ∷ texts))
    node_without_rule none = no_kind Serves texts (node_without (λ m r places n fits count each turns rank_is count_is rule_is addresses_are turns_are.
        none r (subst (λ (c : ℕ). RuleFits c r) (same_count w m k counts count_is) fits) rule_is))

    pub node_without_addresses : is_ok (addresses_of k.monitors y) ≡ false → ¬ (ParsesTask (codes "node" ∷ texts))
    node_without_addresses none = no_kind Serves texts (node_without (λ m r places n fits count each turns rank_is count_is rule_is addresses_are turns_are.
        no_addresses k.monitors y none places (omega (arith, k.in_map)) (count ∙ same_count w m k counts count_is) each addresses_are))

    pub reflects_node : (r : Rule) (o : Option ℕ) (test : Bool) → RuleFits k.monitors r → x ≡ rule_text r → is_ok (addresses_of k.monitors y) ≡ true
        → Parses decimal (λ n. (1 ≤ n) × (n ≤ 2 ^ 62)) o z → test ≡ is_some o → Reflects test (ParsesTask (codes "node" ∷ texts))
    reflects_node r o test fits rule_is read last is =
        let places = addresses_there k.monitors y read in
        reflects_kind Serves texts test (last_reflects ℕ decimal (λ n. (1 ≤ n) × (n ≤ 2 ^ 62)) z o test (Parsed Serves texts) last is
        (λ n within z_is. record {
          fields = (k, r, places.0, files.disk_a, files.disk_b, n);
          has = (fits, places.1.count, places.1.each, within.0, within.1);
          are = files.are ∙ (λ i. ranks i ∷ counts i ∷ rule_is i ∷ places.1.parsed i ∷ files.disk_a ∷ files.disk_b ∷ z_is i ∷ []);
        })
        (λ other. node_without (λ m r places n fits count each turns rank_is count_is rule_is addresses_are turns_are. other n turns turns_are)))

-- ---- `follow`

three_by_text : (a b c d e f : List ℕ) → ◌≡◌ {A = List (List ℕ)} (a ∷ b ∷ c ∷ []) (d ∷ e ∷ f ∷ []) → (a ≡ d) × (b ≡ e) × (c ≡ f)
three_by_text a b c d e f same = (cc, cc, cc)

module _ (texts : List (List ℕ)) (x y z : List ℕ) (are : texts ≡ x ∷ y ∷ z ∷ []) where
  pub follow_without : ((s : Service) (places : List Address) (n : ℕ) → 1 ≤ length places → length places ≤ 15 → AllByRecursion IsAddress places → (1 ≤ n) × (n ≤ 2 ^ 61)
      → x ≡ service_text s → y ≡ addresses_text places → z ≡ decimal n → ⊥) → ¬ (Parsed Follows texts)
  follow_without none s =
      let t = three_by_text _ _ _ _ _ _ (sym are ∙ s.are) in
      none s.fields.0 s.fields.1 s.fields.2 s.has.0 s.has.1 s.has.2 (s.has.3, s.has.4) t.0 t.1 t.2

  pub follow_without_service : ((s : Service) → Unit {0} → ¬ (x ≡ service_text s)) → ¬ (ParsesTask (codes "follow" ∷ texts))
  follow_without_service none = no_kind Follows texts (follow_without (λ s places n some few each turns service_is addresses_are turns_are. none s tt service_is))

  pub follow_of_many : 15 ≤ commas y → ¬ (ParsesTask (codes "follow" ∷ texts))
  follow_of_many many = no_kind Follows texts (follow_without (λ s places n some few each turns service_is addresses_are turns_are.
      omega (arith, many, few, commas_between places some each, ap commas addresses_are)))

  pub follow_without_addresses : (n : ℕ) → n ≡ commas y + 1 → is_ok (addresses_of n y) ≡ false → ¬ (ParsesTask (codes "follow" ∷ texts))
  follow_without_addresses n count none = no_kind Follows texts (follow_without (λ s places turns some few each within service_is addresses_are turns_are.
      no_addresses n y none places (omega (arith, count)) (omega (arith, count, commas_between places some each, ap commas addresses_are)) each addresses_are))

  pub reflects_follow : (s : Service) (n : ℕ) (o : Option ℕ) (test : Bool) → x ≡ service_text s → n ≡ commas y + 1 → n ≤ 15 → is_ok (addresses_of n y) ≡ true
      → Parses decimal (λ k. (1 ≤ k) × (k ≤ 2 ^ 61)) o z → test ≡ is_some o → Reflects test (ParsesTask (codes "follow" ∷ texts))
  reflects_follow s n o test service_is count few read last is =
      let places = addresses_there n y read in
      reflects_kind Follows texts test (last_reflects ℕ decimal (λ k. (1 ≤ k) × (k ≤ 2 ^ 61)) z o test (Parsed Follows texts) last is
      (λ k within z_is. record {
        fields = (s, places.0, k);
        has = (omega (arith, count, places.1.count), omega (arith, few, places.1.count), places.1.each, within.0, within.1);
        are = are ∙ (λ i. service_is i ∷ places.1.parsed i ∷ z_is i ∷ []);
      })
      (λ other. follow_without (λ s places k some few each turns service_is addresses_are turns_are. other k turns turns_are)))

-- ---- commands on a store

module _ (texts : List (List ℕ)) (x y : List ℕ) (files : WithFiles (x ∷ y ∷ []) [] texts) where
  pub reflects_store : (o : Option Member) (test : Bool) → IfSome o (λ m. (x ≡ decimal m.rank) × (y ≡ decimal m.monitors))
      → (o ≡ None → (m : Member) → x ≡ decimal m.rank → y ≡ decimal m.monitors → ⊥) → test ≡ is_some o → Reflects test (AreStore texts)
  reflects_store (Some m) test some none is = subst (λ (b : Bool). Reflects b (AreStore texts)) (sym is) (record {
    member = m;
    disk_a = files.disk_a;
    disk_b = files.disk_b;
    are = files.are ∙ (λ i. some.0 i ∷ some.1 i ∷ files.disk_a ∷ files.disk_b ∷ []);
  })
  reflects_store None test some none is = subst (λ (b : Bool). Reflects b (AreStore texts)) (sym is) (λ s.
      let t = store_by_text _ _ _ _ _ _ _ _ (sym files.are ∙ s.are) in none refl s.member t.ranks t.counts)

module _ (texts : List (List ℕ)) (test : Bool) (reflects : Reflects test (AreStore texts)) where
  pub reflects_scrub : Reflects test (ParsesTask (codes "scrub" ∷ texts))
  reflects_scrub = reflects_kind Scrubs texts test (reflects_both test (AreStore texts) (Parsed Scrubs texts)
      (λ s. record { fields = (s.member, s.disk_a, s.disk_b); has = tt; are = s.are }) (λ s. record { member = s.fields.0; disk_a = s.fields.1; disk_b = s.fields.2; are = s.are }) reflects)

  pub reflects_keys : Reflects test (ParsesTask (codes "dump-keys" ∷ texts))
  reflects_keys = reflects_kind DumpsKeys texts test (reflects_both test (AreStore texts) (Parsed DumpsKeys texts)
      (λ s. record { fields = (s.member, s.disk_a, s.disk_b); has = tt; are = s.are }) (λ s. record { member = s.fields.0; disk_a = s.fields.1; disk_b = s.fields.2; are = s.are }) reflects)

  pub reflects_export : Reflects test (ParsesTask (codes "store-export" ∷ texts))
  reflects_export = reflects_kind Exports texts test (reflects_both test (AreStore texts) (Parsed Exports texts)
      (λ s. record { fields = (s.member, s.disk_a, s.disk_b); has = tt; are = s.are }) (λ s. record { member = s.fields.0; disk_a = s.fields.1; disk_b = s.fields.2; are = s.are }) reflects)

  pub reflects_import : Reflects test (ParsesTask (codes "store-import" ∷ texts))
  reflects_import = reflects_kind Imports texts test (reflects_both test (AreStore texts) (Parsed Imports texts)
      (λ s. record { fields = (s.member, s.disk_a, s.disk_b); has = tt; are = s.are }) (λ s. record { member = s.fields.0; disk_a = s.fields.1; disk_b = s.fields.2; are = s.are }) reflects)

-- ---- `dump-paxos`

module _ (texts : List (List ℕ)) (x y z w : List ℕ) (files : WithFiles (x ∷ y ∷ []) (z ∷ w ∷ []) texts) where
  versions_without : ((m : Member) (from to : ℕ) → from ≤ to → to ≤ 2 ^ 62 → x ≡ decimal m.rank → y ≡ decimal m.monitors → z ≡ decimal from → w ≡ decimal to → ⊥)
      → ¬ (Parsed DumpsPaxos texts)
  versions_without none s =
      let t = versions_by_text _ _ _ _ _ _ _ _ _ _ _ _ (sym files.are ∙ s.are) in
      none s.fields.0 s.fields.3 s.fields.4 s.has.0 s.has.1 t.ranks t.counts t.firsts t.lasts

  pub versions_without_member : ((m : Member) → x ≡ decimal m.rank → y ≡ decimal m.monitors → ⊥) → ¬ (ParsesTask (codes "dump-paxos" ∷ texts))
  versions_without_member none = no_kind DumpsPaxos texts (versions_without (λ m from to low most ranks counts firsts lasts. none m ranks counts))

  pub reflects_versions : (m : Member) (to : ℕ) (o : Option ℕ) (test : Bool) → x ≡ decimal m.rank → y ≡ decimal m.monitors → w ≡ decimal to → to ≤ 2 ^ 62
      → Parses decimal (λ n. (0 ≤ n) × (n ≤ to)) o z → test ≡ is_some o → Reflects test (ParsesTask (codes "dump-paxos" ∷ texts))
  reflects_versions m to o test ranks counts last most first is =
      reflects_kind DumpsPaxos texts test (last_reflects ℕ decimal (λ n. (0 ≤ n) × (n ≤ to)) z o test (Parsed DumpsPaxos texts) first is
      (λ n within z_is. record {
        fields = (m, files.disk_a, files.disk_b, n, to);
        has = (within.1, most);
        are = files.are ∙ (λ i. ranks i ∷ counts i ∷ files.disk_a ∷ files.disk_b ∷ z_is i ∷ last i ∷ []);
      })
      (λ other. versions_without (λ k from until low few rank_is count_is first_is last_is.
      let same : until ≡ to = decimal_injective until to (omega (arith, few)) (omega (arith, most)) (sym last_is ∙ last) in
      other from (omega arith, omega (arith, low, same)) first_is)))
