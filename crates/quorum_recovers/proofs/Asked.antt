-- The value of a command that is asked becomes the next version of the log.
use Rattle.law_names.proofs.Runs.{AllValues, Asked, IsAsked, IsCommand, IsValue, Keeps, RequestFits, command_of, log_from, request_of, view_at, within}
use Rattle.law_names.proofs.Table.{Command, Learn, Op, Readings, Service, Session, Store, apply_op, entry, incrementals, play, put_number, readings_of, service_last, service_of, text, value}
use Rattle.log_copies.proofs.Growing as growing
use Rattle.log_copies.proofs.Matching.{monitor_keeps, read_last}
use Rattle.log_copies.proofs.Sending.{keeps_noted}
use Rattle.log_copies.specs.Versions.{HasVersions}
use Rattle.log_model.proofs.Committed.{holds, texts, value_told}
use Rattle.log_model.proofs.Lists.{length_push}
use Rattle.log_model.proofs.Logs.{IsPrefixOf, entry_push, fold_stays, log_prefix_push}
use Rattle.log_model.proofs.Older.{older_itself}
use Rattle.log_model.proofs.Records.{IsVersion}
use Rattle.log_model.proofs.RowReadings as rows
use Rattle.log_model.proofs.RuleCells.{log_high}
use Rattle.log_model.proofs.Windows.{row_of}
use Rattle.mon_bytes.specs.declared.command.Command.TheVariants as command
use Rattle.mon_tx.specs.declared.key.Area.TheVariants as area
use Rattle.mon_tx.specs.declared.key.Key.TheVariants as key
use Rattle.quorum_agreement.proofs.Made.{keeps_stay}
use Rattle.quorum_laws.proofs.Values.{made}
use Rattle.quorum_walk.proofs.FineCourses.{Val}
use Rattle.std.proofs.Common.{List, None, Ok, Some, [], ap, arith, cond, length, refl, subst, suc, sym, ℕ, ◌++◌, ◌<◌, ◌^◌, ◌∙◌, ◌∷◌, ◌≡◌, ◌≤◌}
use Rattle.std.proofs.lemmas.Bool.{le-leb, lt-ltb}

-- the request, as a world notes it
abbrev pub asked_at : ℕ → Session → Command → Asked
asked_at rank session c = record { rank = rank; session = session; request = request_of c }

pub request_fits : (c : Command) → IsCommand c → RequestFits (request_of c)
request_fits (command.Set key value) k = k
request_fits (command.Remove key) k = k
request_fits (command.Log text) k = k

command_is : (c : Command) → command_of (request_of c) ≡ Some c
command_is (command.Set key value) = refl
command_is (command.Remove key) = refl
command_is (command.Log text) = refl

-- a store that has l versions of a log of values
module _ (log : List (List ℕ)) (short : length log ≤ 2 ^ 62) (values : AllValues log) (m : Store) (l : ℕ) (V : HasVersions log l m) where
  pub last_is : (readings_of m).last ≡ l
  last_is = read_last log short values l m V

  pub keeps : Keeps log l (readings_of m)
  keeps = monitor_keeps log short values l m V

  -- the next version of a service is a number
  pub service_room : suc l ≤ 2 ^ 62 → (s : Service) → suc (service_last (readings_of m) s) ≤ 2 ^ 62
  service_room less s =
      let few = (holds log short values l V.within).chains.few s in
      let last = rows.last_is (readings_of m) s (incrementals s log l) (row_of log l (readings_of m) s keeps) (omega arith) in
      omega arith

  -- the value of a command may be proposed
  pub value_val : suc l ≤ 2 ^ 62 → (c : Command) → IsCommand c → (i : ℕ) → i < 15 → (x : List Op) → value (readings_of m) c i ≡ Ok x → Val x
  value_val less c form i few x is = made (readings_of m) (m, refl) c i x form (omega arith) (let e = last_is in omega arith) (service_room less (service_of c)) is

  -- a value that was made over the whole log
  module _ (whole : length log ≡ l) (room : suc l ≤ 2 ^ 62) (c : Command) (form : IsCommand c) (i : ℕ) (few : i < 15) (x : List Op) (is : value (readings_of m) c i ≡ Ok x) where
    abbrev more : List (List ℕ)
    more = log ++ text x ∷ []

    all : Keeps log (length log) (readings_of m)
    all = subst (λ (k : ℕ). Keeps log k (readings_of m)) (sym whole) keeps

    over : value (view_at log l) c i ≡ value (readings_of m) c i
    over = subst (λ (k : ℕ). value (view_at log k) c i ≡ value (readings_of m) c i) whole (value_told log short values (readings_of m) all (last_is ∙ sym whole) c i)

    is_value : IsValue (readings_of m) x
    is_value = record { command = c; form = form; asked = i; rank = omega arith; newer = x; made = is; encoded = older_itself x }

    -- it is the next version of the log that has it
    next_version : IsVersion more (suc (length log)) x
    next_version = growing.new_version log (omega arith) values (readings_of m) all (last_is ∙ sym whole) x is_value

    -- and so the store keeps it, once it is learned
    pub learned_is : (play (Learn (suc l) x) (readings_of m)).record_of (suc l) ≡ Some (text x)
    learned_is =
        let long = length_push log (text x) in
        let K : Keeps more l (readings_of m) = keeps_stay (log_prefix_push log (text x)) l (omega arith) (readings_of m) keeps in
        let N = keeps_noted more (omega arith) (growing.more_values log (omega arith) values (readings_of m) all (last_is ∙ sym whole) x is_value) (x ∷ []) l (suc l) (omega arith) (omega arith) (subst (λ (k : ℕ). IsVersion more (suc k) x) whole next_version, tt) (readings_of m) K in
        N.records (suc l) (omega arith) ∙ there ∙ ap Some (ap (λ (k : ℕ). entry more (suc k)) (sym whole) ∙ entry_push log (text x))
      where
        there : cond (within (log_from (suc l)) (suc (suc l)) (suc l)) (Some (entry more (suc l))) None ≡ Some (entry more (suc l))
        there = rw (le-leb (log_from (suc l)) (suc l) (let h = log_high (suc l) (omega arith) in omega arith), lt-ltb (suc l) (suc (suc l)) (omega arith)) refl

    -- in each longer log whose next version has these bytes, that version is what was asked
    pub asked_is : (n : ℕ) → i < n → (session : Session) (later : List (List ℕ)) → IsPrefixOf log later → entry later (suc l) ≡ text x → IsAsked n (asked_at i session c ∷ []) later l
    asked_is n lt session later F encodes = record {
      by = asked_at i session c;
      was_asked = (0, omega arith, refl);
      rank = lt;
      command = c;
      is = command_is c;
      form = form;
      ops = x;
      made = ap (λ (r : Readings). value r c i) view ∙ over ∙ is;
      has_text = texts log (omega arith) values (readings_of m) all (last_is ∙ sym whole) x is_value;
      encodes = encodes;
    }
      where
        view : view_at later l ≡ view_at log l
        view = ap (λ (m : Store). readings_of (apply_op (put_number area.Paxos key.LastCommitted l) m)) (fold_stays F l (omega arith))
