-- What a value is, whatever store it is made over: it leaves a monitor's own numbers, puts no record, and is decoded from its
-- encoding.
use Rattle.std.proofs.Common.{◌≡◌, ℕ, suc, ◌-◌, ◌≤◌, ◌^◌, Bool, true, false, cond, ltb, List, [], ◌++◌, length, Some, None, Result, Ok, Err, ◌⊎◌, inl, inr, refl, ap, subst, ◌∙◌, arith}
use Rattle.std.proofs.lemmas.Bool.{cond_both, le-leb}
use Rattle.mon_bytes.specs.declared.command.Command.{Command}
use Rattle.mon_bytes.specs.declared.command.CommandRefused.{CommandRefused}
use Rattle.mon_tx.specs.declared.key.Area.{Area}
use Rattle.mon_tx.specs.declared.key.Area.TheVariants as area
use Rattle.mon_tx.specs.declared.key.Key.{Key}
use Rattle.mon_tx.specs.declared.key.Key.TheVariants as key
use Rattle.mon_tx.specs.declared.op.Op.{Op}
use Rattle.mon_tx.specs.Decision.{Cell, Decision, decision, or_before}
use Rattle.mon_tx.specs.Keys.{place, same_area, same_key, covers}
use Rattle.mon_tx.specs.Text.{text}
use Rattle.mon_tx.proofs.Again.{transaction_again}
use Rattle.mon_wire.specs.Message.Length.{message_length}
use Rattle.mon_wire.specs.declared.body.Body.TheVariants as body
use Rattle.mon_wire.specs.declared.reply.ShownMap.{ShownMap}
use Rattle.mon_wire.specs.declared.request.Service.{Service}
use Rattle.mon_wire.specs.declared.request.Service.TheVariants.{Kv, Log}
use Rattle.mon_msg.specs.Puts.{area_of}
use Rattle.mon_msg.specs.Protocol.Parts.{map_text}
use Rattle.mon_msg.specs.Protocol.Readings.{Readings, cell_after}
use Rattle.mon_msg.specs.Protocol.Records.{most_value, if_it_may_begin, transaction_in}
use Rattle.mon_msg.specs.Protocol.Rules.{paxos_to, value_ops}
use Rattle.mon_msg.specs.Protocol.Services.{service_first, service_last, read_map}
use Rattle.mon_msg.specs.Protocol.Value.{service_of, made, value_of, value}
use Rattle.log_model.specs.LogOfValues.{IsCommand, IsValue}
use Rattle.log_model.proofs.AreaEdits.{Edit, encoded, final, cell_after-append, cell_here, cell_elsewhere}
use Rattle.log_model.proofs.Older.{older_itself}
use Rattle.log_model.proofs.RuleCells.{log_begun_other, log_begun_version}
use Rattle.log_model.proofs.RuleEdits.{begun, log_cut, log_trimmed, service_edits, value_is}
use Rattle.log_model.proofs.Spares.{Spares, is_number, by_name}
use Rattle.log_model.proofs.ValueSizes.{any_text}

-- ---- what changes decide, by what they leave of each cell

undecided : (d : Decision) → ((c : Cell) → or_before d c ≡ c) → d ≡ None
undecided None h = refl
undecided (Some None) h = let g = h (Some []) in absurd cc
undecided (Some (Some x)) h = let g = h None in absurd cc

gone : (d : Decision) → ((c : Cell) → or_before d c ≡ None) → d ≡ Some None
gone None h = let g = h (Some []) in absurd cc
gone (Some None) h = refl
gone (Some (Some x)) h = let g = h None in absurd cc

-- ---- the rules of a value

module _ (first last : ℕ) (s : Service) (n service_first : ℕ) (x t : List ℕ) where
  abbrev ops : List Op
  ops = value_ops first last (area_of s) n service_first x t

  abbrev edits : List Edit
  edits = service_edits n service_first x t

  in_parts : (b : Area) (k : Key) (c : Cell)
      → cell_after ops b k c ≡ cell_after (encoded area.Paxos (log_trimmed first last)) b k (cell_after (encoded (area_of s) edits) b k (cell_after (encoded area.Paxos (begun last)) b k c))
  in_parts b k c =
      ap (λ (es : List Op). cell_after es b k c) (value_is first last (area_of s) n service_first x t)
      ∙ cell_after-append (encoded area.Paxos (begun last)) (encoded (area_of s) edits ++ encoded area.Paxos (log_trimmed first last)) b k c
      ∙ cell_after-append (encoded (area_of s) edits) (encoded area.Paxos (log_trimmed first last)) b k _

  -- in the log's own area
  in_log : (k : Key) (c : Cell) → cell_after ops area.Paxos k c ≡ final (log_trimmed first last) k (final (begun last) k c)
  in_log k c =
      in_parts area.Paxos k c ∙ cell_here area.Paxos (log_trimmed first last) k _
      ∙ ap (final (log_trimmed first last) k) (cell_elsewhere (area_of s) area.Paxos edits k _ (apart s) ∙ cell_here area.Paxos (begun last) k c)
    where
      apart : (u : Service) → same_area area.Paxos (area_of u) ≡ false
      apart Kv = refl
      apart Log = refl

  elsewhere : (b : Area) (k : Key) → same_area b area.Paxos ≡ false → same_area b (area_of s) ≡ false → decision ops (place b k) ≡ None
  elsewhere b k p q = undecided (decision ops (place b k)) (λ c.
      in_parts b k c ∙ cell_elsewhere area.Paxos b (log_trimmed first last) k _ p ∙ cell_elsewhere (area_of s) b edits k _ q ∙ cell_elsewhere area.Paxos b (begun last) k c p)

  -- a key of the log that is neither its first version nor a record
  trimmed_other : (k : Key) (c : Cell) → ((a b : ℕ) → covers a b k ≡ false) → same_key k key.FirstCommitted ≡ false → final (log_trimmed first last) k c ≡ c
  trimmed_other k c h f = cond_both (ltb 750 (last - first)) (log_cut first (paxos_to first last)) [] (λ es. final es k c ≡ c) (λ e. let out = h first (paxos_to first last) in rw (out, f) refl) (λ e. refl)

  other : (k : Key) → ((a b : ℕ) → covers a b k ≡ false) → same_key k key.FirstCommitted ≡ false → decision ops (place area.Paxos k) ≡ None
  other k h f = undecided (decision ops (place area.Paxos k)) (λ c. in_log k c ∙ trimmed_other k _ h f ∙ log_begun_other last k c f)

  rules_spare : Spares ops
  rules_spare = by_name ops by
    where
      none_of : (b : Area) (u : Service) → same_area b area.Kv ≡ false → same_area b area.Logm ≡ false → same_area b (area_of u) ≡ false
      none_of b Kv p q = p
      none_of b Log p q = q

      by : (a : Area) (k : Key) → is_number a k ≡ true → decision ops (place a k) ≡ None
      by area.Monitor k e = elsewhere area.Monitor k refl (none_of area.Monitor s refl refl)
      by area.Sync k e = elsewhere area.Sync k refl (none_of area.Sync s refl refl)
      by area.Paxos key.LastPn e = other key.LastPn (λ a b. refl) refl
      by area.Paxos key.AcceptedPn e = other key.AcceptedPn (λ a b. refl) refl
      by area.Paxos key.PendingV e = other key.PendingV (λ a b. refl) refl
      by area.Paxos key.PendingPn e = other key.PendingPn (λ a b. refl) refl
      by area.Paxos key.LastCommitted e = other key.LastCommitted (λ a b. refl) refl
      by a k e = absurd cc

  -- it may erase records
  trimmed_record : (v : ℕ) → ((c : Cell) → final (log_trimmed first last) (key.Version v) c ≡ c) ⊎ ((c : Cell) → final (log_trimmed first last) (key.Version v) c ≡ None)
  trimmed_record v =
      cond_both (ltb 750 (last - first)) (log_cut first (paxos_to first last)) [] (λ es. ((c : Cell) → final es (key.Version v) c ≡ c) ⊎ ((c : Cell) → final es (key.Version v) c ≡ None))
      (λ e. by (covers first (paxos_to first last) (key.Version v))) (λ e. inl (λ c. refl))
    where
      by : (b : Bool) → ((c : Cell) → cond b None c ≡ c) ⊎ ((c : Cell) → cond b None c ≡ None)
      by true = inr (λ c. refl)
      by false = inl (λ c. refl)

  rules_record : (v : ℕ) → (decision ops (place area.Paxos (key.Version v)) ≡ None) ⊎ (decision ops (place area.Paxos (key.Version v)) ≡ Some None)
  rules_record v = by (trimmed_record v)
    where
      by : ((c : Cell) → final (log_trimmed first last) (key.Version v) c ≡ c) ⊎ ((c : Cell) → final (log_trimmed first last) (key.Version v) c ≡ None)
          → (decision ops (place area.Paxos (key.Version v)) ≡ None) ⊎ (decision ops (place area.Paxos (key.Version v)) ≡ Some None)
      by (inl h) = inl (undecided _ (λ c. in_log (key.Version v) c ∙ h _ ∙ log_begun_version last v c))
      by (inr h) = inr (gone _ (λ c. in_log (key.Version v) c ∙ h _))

-- ---- a value

-- a value is made of an incremental and of the map after it
record IsMade (w : Readings) (s : Service) (x : List Op) : Type 0 where
  incremental : List ℕ
  map : ShownMap
  is : value_of w s incremental map ≡ x

module _ (w : Readings) (c : Command) (asked : ℕ) (x : List Op) (h : value w c asked ≡ Ok x) where
  abbrev s : Service
  s = service_of c

  is_made : IsMade w s x
  unfolding value
  is_made = by (made (read_map w s) asked c) refl
    where
      by : (r : Result (List ℕ × ShownMap) CommandRefused) → made (read_map w s) asked c ≡ r → IsMade w s x
      by (Err e) p = let g = rw p at h in absurd cc
      by (Ok (incremental, next)) p = let g = rw p at h in record { incremental = incremental; map = next; is = cc }

  -- it leaves the monitor's own numbers
  pub value_spares : Spares x
  value_spares = let m = is_made in subst Spares m.is (rules_spare w.first w.last s (suc (service_last w s)) (service_first w s) m.incremental (map_text m.map))

  -- it puts no record of a version, and may erase some
  pub value_records : (u : ℕ) → (decision x (place area.Paxos (key.Version u)) ≡ None) ⊎ (decision x (place area.Paxos (key.Version u)) ≡ Some None)
  value_records u =
      let m = is_made in
      subst (λ (ops : List Op). (decision ops (place area.Paxos (key.Version u)) ≡ None) ⊎ (decision ops (place area.Paxos (key.Version u)) ≡ Some None)) m.is
      (rules_record w.first w.last s (suc (service_last w s)) (service_first w s) m.incremental (map_text m.map) u)

  -- it is short enough to be proposed, and its record is read as it is
  pub value_reads : IsCommand c → asked ≤ 14 → w.last ≤ 2 ^ 62 → suc (service_last w s) ≤ 2 ^ 62 → (length (text x) ≤ most_value) × (transaction_in (Some (text x)) ≡ Some x)
  value_reads form rank at room =
      let V : IsValue w x = record { command = c; form = form; asked = asked; rank = rank; newer = x; made = h; encoded = older_itself x } in
      let t = any_text w x V at room in
      (t.1, ap if_it_may_begin (transaction_again x t.0) ∙ begins t.1)
    where
      begins : length (text x) ≤ most_value → if_it_may_begin (Ok x) ≡ Some x
      begins short = rw (le-leb (message_length 1 (body.Begin 0 0 x)) 1048576 (omega arith)) refl
