-- Logs of values: what their fold keeps, how they grow, and what is shared.
use Rattle.std.proofs.Common.{◌≡◌, ℕ, zero, suc, ◌+◌, ◌<◌, ◌≤◌, ◌^◌, false, not, cond, List, [], ◌∷◌, ◌++◌, length, None, Result, Ok, Err, ◌⊎◌, inl, inr, refl, sym, ap, subst, ◌∙◌, arith}
use Rattle.std.proofs.lemmas.Bool.{cases_lt, ne_eqb}
use Rattle.std.specs.FinMap.{get}
use Rattle.mon_bytes.specs.declared.command.Command.{Command}
use Rattle.mon_bytes.specs.declared.command.CommandRefused.{CommandRefused}
use Rattle.mon_tx.specs.declared.key.Area.{Area}
use Rattle.mon_tx.specs.declared.key.Area.TheVariants as area
use Rattle.mon_tx.specs.declared.key.Key.{Key}
use Rattle.mon_tx.specs.declared.key.Key.TheVariants as key
use Rattle.mon_tx.specs.declared.op.Op.{Op}
use Rattle.mon_tx.specs.Decode.{HasText, ops_or_none, ops_in}
use Rattle.mon_tx.specs.Keys.{place, cell, number, shared}
use Rattle.mon_tx.specs.Map.{Store, number_in, apply_op}
use Rattle.mon_tx.specs.Text.{text}
use Rattle.mon_tx.proofs.Again.{transaction_again}
use Rattle.mon_wire.specs.declared.reply.ShownMap.{ShownMap}
use Rattle.mon_wire.specs.declared.request.Service.{Service}
use Rattle.mon_wire.specs.declared.request.Service.TheVariants.{Kv, Log}
use Rattle.mon_msg.specs.Puts.{put, put_number}
use Rattle.mon_msg.specs.Fold.{entry, fold, incrementals}
use Rattle.mon_msg.specs.Puts.{area_of}
use Rattle.mon_msg.specs.Protocol.Parts.{map_text}
use Rattle.mon_msg.specs.Protocol.Services.{read_map}
use Rattle.mon_msg.specs.Protocol.Records.{most_value}
use Rattle.mon_msg.specs.Protocol.Rules.{value_ops}
use Rattle.mon_msg.specs.Protocol.Value.{service_of, made, value}
use Rattle.mon_msg.specs.Protocol.Readings.{Readings, readings_of, after}
use Rattle.log_model.specs.LogOfValues.{view_at, IsValue, EncodesValue, AllValues}
use Rattle.log_model.specs.Windows.{Keeps, Shows}
use Rattle.log_model.proofs.Lists.{length_push}
use Rattle.log_model.proofs.Logs.{log_prefix_push, entry_push, entry_stays, fold_stays}
use Rattle.log_model.proofs.Places.{get_kept, shared_is, local_named, is_shared, tied}
use Rattle.log_model.proofs.TextSizes.{short, has_text}
use Rattle.log_model.proofs.FoldWindows.{Holds, holds_none, holds_more, keeps_view, view_last, shows}
use Rattle.log_model.proofs.Windows.{Chains, Next, row_of, next_of, keeps_more}
use Rattle.log_model.proofs.RowReadings.{map_is}

-- ---- the texts

pub ops_again : (ops : List Op) → HasText ops → ops_in (text ops) ≡ ops
unfolding ops_in
ops_again ops h = ap ops_or_none (transaction_again ops h)

pub next_at : (log : List (List ℕ)) (c : ℕ) → c < 2 ^ 62 → Holds log c → (w : Readings) → Keeps log c w → w.last ≡ c → (older : List Op) → (V : IsValue w older) → Next log c V.newer
next_at log c h H w K at older V = next_of log c w older (omega arith) K H.chains at V

value_text : (log : List (List ℕ)) (c : ℕ) → c < 2 ^ 62 → Holds log c → (w : Readings) → Keeps log c w → w.last ≡ c → (older : List Op) → IsValue w older → HasText older
value_text log c h H w K at older V = let N = next_at log c h H w K at older V in has_text log c V.newer N h (H.chains.few N.service) older V.encoded

value_short : (log : List (List ℕ)) (c : ℕ) → c < 2 ^ 62 → Holds log c → (w : Readings) → Keeps log c w → w.last ≡ c → (older : List Op) → IsValue w older → length (text older) ≤ most_value
value_short log c h H w K at older V = let N = next_at log c h H w K at older V in short log c V.newer N h (H.chains.few N.service) older V.encoded

-- ---- all versions

pub encoded_text : (log : List (List ℕ)) (c : ℕ) → c < 2 ^ 62 → Holds log c → (S : EncodesValue log c) → ops_in (entry log (suc c)) ≡ S.changes
encoded_text log c h H S =
    ap ops_in S.encodes ∙ ops_again S.changes (value_text log c h H (view_at log c) (keeps_view log c (omega arith) H.keeps) (view_last log c (omega arith)) S.changes S.value)

pub holds : (log : List (List ℕ)) → length log ≤ 2 ^ 62 → AllValues log → (c : ℕ) → c ≤ length log → Holds log c
holds log fits all zero h = holds_none log
holds log fits all (suc c) h =
    let H = holds log fits all c (omega arith) in
    let S = all c (omega arith) in
    holds_more log c (omega arith) H S (encoded_text log c (omega arith) H S)

pub keeps : (log : List (List ℕ)) → length log ≤ 2 ^ 62 → AllValues log → (c : ℕ) → c ≤ length log → Keeps log c (readings_of (fold log c))
keeps log fits all c h = (holds log fits all c h).keeps

pub nothing_above : (log : List (List ℕ)) → length log ≤ 2 ^ 62 → AllValues log → (c : ℕ) → c ≤ length log → (v : ℕ) → c < v → (readings_of (fold log c)).record_of v ≡ None
nothing_above log fits all c h v gt = (holds log fits all c h).above v gt

pub learns : (log : List (List ℕ)) → length log ≤ 2 ^ 62 → AllValues log → (c : ℕ) → c < length log → (w : Readings) → Keeps log c w
    → Keeps log (suc c) (after (put area.Paxos (key.Version (suc c)) (entry log (suc c)) ∷ ops_in (entry log (suc c))) w)
learns log fits all c h w K =
    let H = holds log fits all c (omega arith) in
    let S = all c h in
    let e = encoded_text log c (omega arith) H S in
    let N = next_at log c (omega arith) H (view_at log c) (keeps_view log c (omega arith) H.keeps) (view_last log c (omega arith)) S.changes S.value in
    subst (λ (ops : List Op). Keeps log (suc c) (after (put area.Paxos (key.Version (suc c)) (entry log (suc c)) ∷ ops) w)) (sym e) (keeps_more log c S.changes S.value.newer S.value.encoded N e w (omega arith) K)

pub shown : (log : List (List ℕ)) → length log ≤ 2 ^ 62 → AllValues log → (c : ℕ) → c ≤ length log → (w : Readings) → Keeps log c w → Shows log c w
shown log fits all c h w K = shows log c w (omega arith) (holds log fits all c h).chains K.rows

pub texts : (log : List (List ℕ)) → length log < 2 ^ 62 → AllValues log → (w : Readings) → Keeps log (length log) w → w.last ≡ length log → (value : List Op) → IsValue w value → HasText value
texts log fits all w K at older V = value_text log (length log) fits (holds log (omega arith) all (length log) (omega arith)) w K at older V

pub shorts : (log : List (List ℕ)) → length log < 2 ^ 62 → AllValues log → (w : Readings) → Keeps log (length log) w → w.last ≡ length log → (value : List Op) → IsValue w value → length (text value) ≤ most_value
shorts log fits all w K at older V = value_short log (length log) fits (holds log (omega arith) all (length log) (omega arith)) w K at older V

-- ---- one more value

-- a value is the same over all stores that keep the same
value_by : (log : List (List ℕ)) (c : ℕ) (v w : Readings) → c ≤ 2 ^ 62 → Chains log c → Keeps log c v → Keeps log c w → v.last ≡ w.last → (command : Command) (asked : ℕ) → value v command asked ≡ value w command asked
unfolding value
value_by log c v w fits C K J last command asked = by (made (read_map w s) asked command) refl
  where
    s : Service
    s = service_of command

    short : length (incrementals s log c) ≤ 2 ^ 62
    short = let f = C.few s in omega arith

    reads : read_map v s ≡ read_map w s
    reads = map_is v s (incrementals s log c) (row_of log c v s K) short (C.chain s) ∙ sym (map_is w s (incrementals s log c) (row_of log c w s J) short (C.chain s))

    first : v.first ≡ w.first
    first = K.first ∙ sym J.first

    cells : (k : Key) → v.row s k ≡ w.row s k
    cells k = K.rows s k ∙ sym (J.rows s k)

    by : (r : Result (List ℕ × ShownMap) CommandRefused) → made (read_map w s) asked command ≡ r → value v command asked ≡ value w command asked
    by (Err e) q = let p = ap (λ (m : ShownMap). made m asked command) reads ∙ q in rw (p, q) refl
    by (Ok (x, next)) q =
        let p = ap (λ (m : ShownMap). made m asked command) reads ∙ q in
        rw (p, q) (λ i. Ok (value_ops (first i) (last i) (area_of s) (suc (number_in (cells key.LastCommitted i))) (number_in (cells key.FirstCommitted i)) x (map_text next)))

-- it is that over the log's fold
pub value_told : (log : List (List ℕ)) → length log ≤ 2 ^ 62 → AllValues log → (w : Readings) → Keeps log (length log) w → w.last ≡ length log → (command : Command) (asked : ℕ) → value (view_at log (length log)) command asked ≡ value w command asked
value_told log fits all w K at command asked =
    let H = holds log fits all (length log) (omega arith) in
    value_by log (length log) (view_at log (length log)) w fits H.chains (keeps_view log (length log) fits H.keeps) K (view_last log (length log) fits ∙ sym at) command asked

value_moved : (v w : Readings) (older : List Op) → ((command : Command) (asked : ℕ) → value v command asked ≡ value w command asked) → IsValue v older → IsValue w older
value_moved v w older alike V = record {
  command = V.command;
  form = V.form;
  asked = V.asked;
  rank = V.rank;
  newer = V.newer;
  made = sym (alike V.command V.asked) ∙ V.made;
  encoded = V.encoded;
}

view_stays : (log : List (List ℕ)) (x : List ℕ) (c : ℕ) → c ≤ length log → view_at (log ++ x ∷ []) c ≡ view_at log c
view_stays log x c h = ap (λ (m : Store). readings_of (apply_op (put_number area.Paxos key.LastCommitted c) m)) (fold_stays (log_prefix_push log x) c h)

pub grown : (log : List (List ℕ)) → length log < 2 ^ 62 → AllValues log → (w : Readings) → Keeps log (length log) w → w.last ≡ length log → (older : List Op) → IsValue w older → AllValues (log ++ text older ∷ [])
grown log fits all w K at older V c h = by (cases_lt c (length log))
  where
    H : Holds log (length log)
    H = holds log (omega arith) all (length log) (omega arith)

    there : Keeps log (length log) (view_at log (length log))
    there = keeps_view log (length log) (omega arith) H.keeps

    newest : EncodesValue (log ++ text older ∷ []) (length log)
    newest = record {
      changes = older;
      value = subst (λ (v : Readings). IsValue v older) (sym (view_stays log (text older) (length log) (omega arith)))
          (value_moved w (view_at log (length log)) older (value_by log (length log) w (view_at log (length log)) (omega arith) H.chains K there (at ∙ sym (view_last log (length log) (omega arith)))) V);
      encodes = entry_push log (text older);
    }

    by : (c < length log) ⊎ (length log ≤ c) → EncodesValue (log ++ text older ∷ []) c
    by (inl lt) =
        let S = all c lt in
        record {
          changes = S.changes;
          value = subst (λ (v : Readings). IsValue v S.changes) (sym (view_stays log (text older) c (omega arith))) S.value;
          encodes = entry_stays (log_prefix_push log (text older)) (suc c) (omega arith) ∙ S.encodes;
        }
    by (inr le) =
        let e : c ≡ length log = omega (arith, length_push log (text older), h) in
        subst (EncodesValue (log ++ text older ∷ [])) (sym e) newest

-- ---- what is shared

-- a store that shares what the fold is has what the fold keeps
module _ (log : List (List ℕ)) (c : ℕ) (m : Store) (same : shared m ≡ fold log c) where
  abbrev last : ℕ
  last = number m area.Paxos key.LastCommitted

  same_cell : (a : Area) (k : Key) → tied last a k ≡ false → cell m a k ≡ cell (fold log c) a k
  same_cell a k e =
      let q = place a k in
      sym (ap (λ (s : Store). get s q) (sym same ∙ shared_is m last refl) ∙ get_kept m (is_shared last) q ∙ ap (λ t. cond (not t) (get m q) None) (local_named last a k ∙ e))

  same_row : (s : Service) (k : Key) → cell m (area_of s) k ≡ cell (fold log c) (area_of s) k
  same_row Kv k = same_cell area.Kv k refl
  same_row Log k = same_cell area.Logm k refl

  pub keeps_shared : number m area.Paxos key.LastCommitted ≡ c → Keeps log c (readings_of (fold log c)) → Keeps log c (readings_of m)
  unfolding readings_of
  keeps_shared at K = record {
    first = ap number_in (same_cell area.Paxos key.FirstCommitted refl) ∙ K.first;
    records = λ v h. same_cell area.Paxos (key.Version v) (rw (ne_eqb (last + 1) v (λ e. omega arith)) refl) ∙ K.records v h;
    rows = λ s k. same_row s k ∙ K.rows s k;
  }

  pub shown_shared : length log ≤ 2 ^ 62 → AllValues log → c ≤ length log → Shows log c (readings_of m)
  unfolding readings_of
  shown_shared fits all h =
      let H = holds log fits all c h in
      shows log c (readings_of m) (omega arith) H.chains (λ s k. same_row s k ∙ H.keeps.rows s k)
