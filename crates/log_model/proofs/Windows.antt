-- A store that keeps what the first c versions of a log leave keeps what the first c + 1 leave, once it learns the next value.
use Rattle.std.proofs.Common.{◌≡◌, ℕ, suc, ◌<◌, ◌≤◌, ◌^◌, Bool, true, false, cond, List, [], ◌∷◌, ◌++◌, length, take, Some, None, Result, Ok, Err, ◌⊎◌, inl, inr, refl, sym, ap, subst, ◌∙◌, arith, length-append}
use Rattle.std.proofs.lemmas.List.{append-nil}
use Rattle.mon_bytes.specs.declared.command.CommandRefused.{CommandRefused}
use Rattle.mon_tx.specs.declared.key.Area.{Area}
use Rattle.mon_tx.specs.declared.key.Area.TheVariants as area
use Rattle.mon_tx.specs.declared.key.Key.{Key}
use Rattle.mon_tx.specs.declared.key.Key.TheVariants as key
use Rattle.mon_tx.specs.declared.op.Op.{Op}
use Rattle.mon_tx.specs.Decision.{Cell, decision, or_before}
use Rattle.mon_tx.specs.Decode.{ops_in}
use Rattle.mon_tx.specs.Keys.{place, same_area, same_key}
use Rattle.mon_tx.specs.Map.{number_bytes, number_in}
use Rattle.mon_wire.specs.declared.reply.ShownMap.{ShownMap}
use Rattle.mon_wire.specs.declared.request.Service.{Service}
use Rattle.mon_wire.specs.declared.request.Service.TheVariants.{Kv, Log}
use Rattle.mon_msg.specs.Puts.{put}
use Rattle.mon_msg.specs.Fold.{entry, put_in, incrementals, map_after}
use Rattle.mon_msg.specs.Puts.{area_of}
use Rattle.mon_msg.specs.Protocol.Readings.{cell_after, number_after}
use Rattle.mon_msg.specs.Protocol.Parts.{map_text}
use Rattle.mon_msg.specs.Protocol.Services.{read_map}
use Rattle.mon_msg.specs.Protocol.Rules.{value_ops}
use Rattle.mon_msg.specs.Protocol.Value.{service_of, made, value_of, value}
use Rattle.mon_msg.specs.Protocol.Readings.{Readings, after}
use Rattle.mon_msg.proofs.Afterwards.{told}
use Rattle.log_model.specs.LogOfValues.{IsOlder, same, IsValue}
use Rattle.log_model.specs.Windows.{service_from, log_from, is_kept_key, if_any, service_row, row_after, record_after, first_read, Keeps}
use Rattle.log_model.proofs.AreaEdits.{Edit, Set, encoded, final, cell_after-append, cell_here, cell_elsewhere}
use Rattle.log_model.proofs.RuleEdits.{begun, log_trimmed, service_edits, value_is}
use Rattle.log_model.proofs.RowSteps.{next_edits, service_step, log_after, log_first_step, log_version_step, log_behind, log_other_step}
use Rattle.log_model.proofs.Older.{decides_same, puts_same}
use Rattle.log_model.proofs.Puts.{puts_value}
use Rattle.log_model.proofs.MapSteps.{IsFine, Chain, chain_more, Makes, makes, after_more, after_last, after_newest, take_old, entry_old, entry_newest}
use Rattle.log_model.proofs.RowReadings.{IsRow, first_number, last_is, first_is, map_is}

-- ---- what a value and its record leave, by area

module _ (s : Service) (first last n service_first : ℕ) (x t bytes : List ℕ) where
  abbrev pub learned : List Op
  learned = put area.Paxos (key.Version (suc last)) bytes ∷ value_ops first last (area_of s) n service_first x t

  abbrev own : List Op
  own = encoded (area_of s) (service_edits n service_first x t)

  abbrev record_set : List Edit
  record_set = Set (key.Version (suc last)) bytes ∷ []

  in_parts : (b : Area) (k : Key) (c : Cell)
      → cell_after learned b k c ≡ cell_after (encoded area.Paxos (log_trimmed first last)) b k (cell_after own b k (cell_after (encoded area.Paxos (begun last)) b k (cell_after (encoded area.Paxos record_set) b k c)))
  in_parts b k c =
      cell_after-append (encoded area.Paxos record_set) (value_ops first last (area_of s) n service_first x t) b k c
      ∙ ap (λ ops. cell_after ops b k (cell_after (encoded area.Paxos record_set) b k c)) (value_is first last (area_of s) n service_first x t)
      ∙ cell_after-append (encoded area.Paxos (begun last)) (own ++ encoded area.Paxos (log_trimmed first last)) b k _
      ∙ cell_after-append own (encoded area.Paxos (log_trimmed first last)) b k _

  apart : (u : Service) → same_area (area_of u) area.Paxos ≡ false
  apart Kv = refl
  apart Log = refl

  apart_log : (u : Service) → same_area area.Paxos (area_of u) ≡ false
  apart_log Kv = refl
  apart_log Log = refl

  own_cell : (k : Key) (c : Cell) → cell_after learned (area_of s) k c ≡ final (service_edits n service_first x t) k c
  own_cell k c =
      in_parts (area_of s) k c ∙ cell_elsewhere area.Paxos (area_of s) (log_trimmed first last) k _ (apart s) ∙ cell_here (area_of s) (service_edits n service_first x t) k _
      ∙ ap (final (service_edits n service_first x t) k) (cell_elsewhere area.Paxos (area_of s) (begun last) k _ (apart s) ∙ cell_elsewhere area.Paxos (area_of s) record_set k c (apart s))

  other_cell : (u : Service) (k : Key) (c : Cell) → same_area (area_of u) (area_of s) ≡ false → cell_after learned (area_of u) k c ≡ c
  other_cell u k c h =
      in_parts (area_of u) k c ∙ cell_elsewhere area.Paxos (area_of u) (log_trimmed first last) k _ (apart u) ∙ cell_elsewhere (area_of s) (area_of u) (service_edits n service_first x t) k _ h
      ∙ cell_elsewhere area.Paxos (area_of u) (begun last) k _ (apart u) ∙ cell_elsewhere area.Paxos (area_of u) record_set k c (apart u)

  pub log_cell : (k : Key) (c : Cell) → cell_after learned area.Paxos k c ≡ final (log_trimmed first last) k (final (begun last) k (cond (same_key k (key.Version (suc last))) (Some bytes) c))
  log_cell k c =
      in_parts area.Paxos k c ∙ cell_here area.Paxos (log_trimmed first last) k _
      ∙ ap (final (log_trimmed first last) k) (cell_elsewhere (area_of s) area.Paxos (service_edits n service_first x t) k _ (apart_log s) ∙ cell_here area.Paxos (begun last) k _
      ∙ ap (final (begun last) k) (cell_here area.Paxos record_set k c))

  pub elsewhere : (b : Area) (k : Key) (c : Cell) → same_area b area.Paxos ≡ false → same_area b (area_of s) ≡ false → cell_after learned b k c ≡ c
  elsewhere b k c p q =
      in_parts b k c ∙ cell_elsewhere area.Paxos b (log_trimmed first last) k _ p ∙ cell_elsewhere (area_of s) b (service_edits n service_first x t) k _ q
      ∙ cell_elsewhere area.Paxos b (begun last) k _ p ∙ cell_elsewhere area.Paxos b record_set k c p

-- ---- a value over a store that keeps what c versions leave

-- each incremental of each service makes the next map, and no version makes two
pub record Chains (log : List (List ℕ)) (c : ℕ) : Type 0 where
  pub chain : (s : Service) → Chain s (incrementals s log c)
  pub few : (s : Service) → length (incrementals s log c) ≤ c

pub row_of : (log : List (List ℕ)) (c : ℕ) (w : Readings) (s : Service) → Keeps log c w → IsRow w s (incrementals s log c)
row_of log c w s keeps = record { cell = keeps.rows s }

-- the incremental and the map that a value makes
pub record Next (log : List (List ℕ)) (c : ℕ) (newer : List Op) : Type 0 where
  pub service : Service
  pub incremental : List ℕ
  pub map : ShownMap
  pub makes : Makes service (map_after service (incrementals service log c)) incremental map
  pub ops : newer ≡ value_ops (first_read log_from c) c (area_of service) (suc (length (incrementals service log c))) (first_read service_from (length (incrementals service log c))) incremental (map_text map)

pub next_of : (log : List (List ℕ)) (c : ℕ) (w : Readings) (older : List Op) → c ≤ 2 ^ 62 → Keeps log c w → Chains log c → w.last ≡ c → (V : IsValue w older) → Next log c V.newer
unfolding value
next_of log c w older fits keeps chains at V = by (made (read_map w s) V.asked V.command) refl
  where
    s : Service
    s = service_of V.command

    is : List (List ℕ)
    is = incrementals s log c

    row : IsRow w s is
    row = row_of log c w s keeps

    short : length is ≤ 2 ^ 62
    short = let f = chains.few s in omega arith

    reads : read_map w s ≡ map_after s is
    reads = map_is w s is row short (chains.chain s)

    fine : IsFine s (map_after s is)
    fine = subst (IsFine s) (after_last s is) ((chains.chain s).fine (length is) (omega arith))

    by : (r : Result (List ℕ × ShownMap) CommandRefused) → made (read_map w s) V.asked V.command ≡ r → Next log c V.newer
    by (Err e) p = let g = rw p at V.made in absurd cc
    by (Ok (x, next)) p =
        let g = rw p at V.made in
        let e : value_of w s x next ≡ V.newer = cc in
        let last = last_is w s is row short in
        let first = first_is w s is row short in
        let log_first = keeps.first in
        record {
          service = s;
          incremental = x;
          map = next;
          makes = makes V.command V.asked (map_after s is) x next V.form V.rank fine (ap (λ (m : ShownMap). made m V.asked V.command) (sym reads) ∙ p);
          ops = sym e ∙ (λ i. value_ops (log_first i) (at i) (area_of s) (suc (last i)) (first i) x (map_text next));
        }

-- ---- the next version

-- two services are one, or their areas differ
one_or_other : (u s : Service) → (u ≡ s) ⊎ ((same_area (area_of u) (area_of s) ≡ false) × (same_area (area_of s) (area_of u) ≡ false))
one_or_other Kv Kv = inl refl
one_or_other Kv Log = inr (refl, refl)
one_or_other Log Kv = inr (refl, refl)
one_or_other Log Log = inl refl

itself : (s : Service) → same_area (area_of s) (area_of s) ≡ true
itself Kv = refl
itself Log = refl

module _ (log : List (List ℕ)) (c : ℕ) (older newer : List Op) (encoded : IsOlder newer older) (N : Next log c newer) (encodes : ops_in (entry log (suc c)) ≡ older) where
  pub incrementals_more : (u : Service) → incrementals u log (suc c) ≡ incrementals u log c ++ cond (same_area (area_of N.service) (area_of u)) (N.incremental ∷ []) []
  unfolding incrementals
  incrementals_more u =
      ap (λ (z : List (List ℕ)). incrementals u log c ++ z)
      (ap (put_in u) encodes ∙ puts_same encoded u ∙ ap (put_in u) N.ops ∙ puts_value u (area_of N.service) (first_read log_from c) c _ _ N.incremental (map_text N.map))

  own_more : incrementals N.service log (suc c) ≡ incrementals N.service log c ++ N.incremental ∷ []
  own_more = incrementals_more N.service ∙ ap (λ (b : Bool). incrementals N.service log c ++ cond b (N.incremental ∷ []) []) (itself N.service)

  other_more : (u : Service) → same_area (area_of N.service) (area_of u) ≡ false → incrementals u log (suc c) ≡ incrementals u log c
  other_more u h = incrementals_more u ∙ ap (λ (b : Bool). incrementals u log c ++ cond b (N.incremental ∷ []) []) h ∙ append-nil (incrementals u log c)

  pub chains_more : Chains log c → Chains log (suc c)
  chains_more C = record { chain = λ u. chain u (one_or_other u N.service); few = λ u. few u (one_or_other u N.service) }
    where
      chain : (u : Service) → (u ≡ N.service) ⊎ ((same_area (area_of u) (area_of N.service) ≡ false) × (same_area (area_of N.service) (area_of u) ≡ false)) → Chain u (incrementals u log (suc c))
      chain u (inl e) =
          subst (λ (v : Service). Chain v (incrementals v log (suc c))) (sym e)
          (subst (Chain N.service) (sym own_more) (chain_more N.service (incrementals N.service log c) N.incremental N.map (C.chain N.service) N.makes))
      chain u (inr ne) = subst (Chain u) (sym (other_more u ne.1)) (C.chain u)

      few : (u : Service) → (u ≡ N.service) ⊎ ((same_area (area_of u) (area_of N.service) ≡ false) × (same_area (area_of N.service) (area_of u) ≡ false)) → length (incrementals u log (suc c)) ≤ suc c
      few u (inl e) =
          subst (λ (v : Service). length (incrementals v log (suc c)) ≤ suc c) (sym e)
          (let f = C.few N.service in omega (arith, ap length own_more, length-append (incrementals N.service log c) (N.incremental ∷ [])))
      few u (inr ne) = let f = C.few u in omega (arith, ap length (other_more u ne.1))

  abbrev n : ℕ
  n = length (incrementals N.service log c)

  abbrev text_at : List (List ℕ) → ℕ → List ℕ
  text_at is v = map_text (map_after N.service (take v is))

  own_row : (k : Key) → final (next_edits n N.incremental (map_text N.map)) k (row_after N.service (incrementals N.service log c) k) ≡ row_after N.service (incrementals N.service log c ++ N.incremental ∷ []) k
  own_row k =
      service_step n (entry is) (entry (is ++ x ∷ [])) (text_at is) (text_at (is ++ x ∷ [])) x (map_text N.map)
      (record { old = λ v h. entry_old is x v (omega arith); newest = entry_newest is x })
      (record {
        old = λ v h. ap (λ (z : List (List ℕ)). map_text (map_after N.service z)) (take_old is x v (omega arith));
        newest = ap map_text (after_newest N.service is x ∙ after_more N.service is x N.map N.makes.reads);
      }) k
      ∙ ap (λ (m : ℕ). service_row m (entry (is ++ x ∷ [])) (text_at (is ++ x ∷ [])) k) (sym long)
    where
      is : List (List ℕ)
      is = incrementals N.service log c

      x : List ℕ
      x = N.incremental

      long : length (is ++ x ∷ []) ≡ suc (length is)
      long = omega (arith, length-append is (x ∷ []))

  -- the record of the version, and then the value
  abbrev pub with_record : List Op
  with_record = put area.Paxos (key.Version (suc c)) (entry log (suc c)) ∷ older

  as_newer : (b : Area) (k : Key) → decision with_record (place b k) ≡ decision (learned N.service (first_read log_from c) c (suc n) (first_read service_from n) N.incremental (map_text N.map) (entry log (suc c))) (place b k)
  as_newer b k =
      decides_same (same (put area.Paxos (key.Version (suc c)) (entry log (suc c))) encoded) b k
      ∙ ap (λ (ops : List Op). decision (put area.Paxos (key.Version (suc c)) (entry log (suc c)) ∷ ops) (place b k)) N.ops

  at_cell : (b : Area) (k : Key) (was : Cell) → cell_after with_record b k was ≡ cell_after (learned N.service (first_read log_from c) c (suc n) (first_read service_from n) N.incremental (map_text N.map) (entry log (suc c))) b k was
  at_cell b k was = ap (λ d. or_before d was) (as_newer b k)

  rows_more : (u : Service) (k : Key) (was : Cell) → was ≡ row_after u (incrementals u log c) k → cell_after with_record (area_of u) k was ≡ row_after u (incrementals u log (suc c)) k
  rows_more u k was e = by (one_or_other u N.service)
    where
      here : cell_after with_record (area_of N.service) k (row_after N.service (incrementals N.service log c) k) ≡ row_after N.service (incrementals N.service log (suc c)) k
      here =
          at_cell (area_of N.service) k _ ∙ own_cell N.service (first_read log_from c) c (suc n) (first_read service_from n) N.incremental (map_text N.map) (entry log (suc c)) k _
          ∙ own_row k ∙ ap (λ (is : List (List ℕ)). row_after N.service is k) (sym own_more)

      by : (u ≡ N.service) ⊎ ((same_area (area_of u) (area_of N.service) ≡ false) × (same_area (area_of N.service) (area_of u) ≡ false)) → cell_after with_record (area_of u) k was ≡ row_after u (incrementals u log (suc c)) k
      by (inl q) =
          ap (cell_after with_record (area_of u) k) e
          ∙ subst (λ (v : Service). cell_after with_record (area_of v) k (row_after v (incrementals v log c) k) ≡ row_after v (incrementals v log (suc c)) k) (sym q) here
      by (inr ne) =
          at_cell (area_of u) k was ∙ other_cell N.service (first_read log_from c) c (suc n) (first_read service_from n) N.incremental (map_text N.map) (entry log (suc c)) u k was ne.0
          ∙ e ∙ ap (λ (is : List (List ℕ)). row_after u is k) (sym (other_more u ne.1))

  pub log_cell_is : (k : Key) (was : Cell) → cell_after with_record area.Paxos k was ≡ log_after c (entry log (suc c)) k was
  log_cell_is k was = at_cell area.Paxos k was ∙ log_cell N.service (first_read log_from c) c (suc n) (first_read service_from n) N.incremental (map_text N.map) (entry log (suc c)) k was

  pub elsewhere_is : (b : Area) (k : Key) (was : Cell) → same_area b area.Paxos ≡ false → ((u : Service) → same_area b (area_of u) ≡ false) → cell_after with_record b k was ≡ was
  elsewhere_is b k was p q =
      at_cell b k was ∙ elsewhere N.service (first_read log_from c) c (suc n) (first_read service_from n) N.incremental (map_text N.map) (entry log (suc c)) b k was p (q N.service)

  pub others_more : (b : Area) (k : Key) → is_kept_key b k ≡ false → cell_after with_record b k None ≡ None
  others_more area.Paxos k h = log_cell_is k None ∙ log_other_step c (entry log (suc c)) k h
  others_more area.Monitor k h = elsewhere_is area.Monitor k None refl apart_monitor
    where
      apart_monitor : (u : Service) → same_area area.Monitor (area_of u) ≡ false
      apart_monitor Kv = refl
      apart_monitor Log = refl
  others_more area.Sync k h = elsewhere_is area.Sync k None refl apart_sync
    where
      apart_sync : (u : Service) → same_area area.Sync (area_of u) ≡ false
      apart_sync Kv = refl
      apart_sync Log = refl
  others_more area.Kv k h = absurd cc
  others_more area.Logm k h = absurd cc

  pub above_more : (w : Readings) → ((v : ℕ) → c < v → w.record_of v ≡ None) → (v : ℕ) → suc c < v → (after with_record w).record_of v ≡ None
  unfolding after
  above_more w above v gt =
      log_cell_is (key.Version v) (w.record_of v) ∙ ap (log_after c (entry log (suc c)) (key.Version v)) (above v (omega arith)) ∙ log_behind c v (entry log (suc c)) None gt

  pub keeps_more : (w : Readings) → suc c ≤ 2 ^ 62 → Keeps log c w → Keeps log (suc c) (after with_record w)
  unfolding after
  keeps_more w fits K = record { first = first; records = records; rows = λ u k. rows_more u k (w.row u k) (K.rows u k) }
    where
      first : number_after with_record area.Paxos key.FirstCommitted w.first ≡ first_read log_from (suc c)
      first =
          let low : log_from c ≤ 2 ^ 62 = omega arith in
          let high : log_from (suc c) ≤ 2 ^ 62 = omega arith in
          ap (number_after with_record area.Paxos key.FirstCommitted) (K.first ∙ sym (first_number log_from c low))
          ∙ sym (told number_in (decision with_record (place area.Paxos key.FirstCommitted)) (if_any c (number_bytes (log_from c))))
          ∙ ap number_in (log_cell_is key.FirstCommitted (if_any c (number_bytes (log_from c))) ∙ log_first_step c (entry log (suc c)))
          ∙ first_number log_from (suc c) high

      records : (v : ℕ) → v ≤ suc c → cell_after with_record area.Paxos (key.Version v) (w.record_of v) ≡ record_after log (suc c) v
      records v le = log_cell_is (key.Version v) (w.record_of v) ∙ log_version_step c v (entry log) (entry log) (entry log (suc c)) (record { old = λ u h. refl; newest = refl }) (w.record_of v) (K.records v) le
