-- Accepted values are made over the log, of commands that clients asked; so the log is one of values.
use Rattle.law_names.proofs.Runs.{AllValues, Asked, IsAsked, IsValue, Keeps, log_from, row_after, view_at, within}
use Rattle.law_names.proofs.Table.{Command, Contains, Op, Readings, Session, Store, apply_op, put_number, readings_of, text, value}
use Rattle.log_copies.proofs.Growing as growing
use Rattle.log_model.proofs.Committed.{texts, value_told}
use Rattle.log_model.proofs.Lists.{length_push}
use Rattle.log_model.proofs.Logs.{IsPrefixOf, entry_push, entry_stays, fold_stays, incrementals_stay, log_prefix_push}
use Rattle.log_model.proofs.Older.{older_itself}
use Rattle.log_model.proofs.Records.{IsVersion}
use Rattle.mon_tx.specs.declared.key.Area.TheVariants as area
use Rattle.mon_tx.specs.declared.key.Key.TheVariants as key
use Rattle.quorum_history.proofs.History.{Accepted, Ghost}
use Rattle.quorum_laws.specs.Commands.{WasAsked}
use Rattle.std.proofs.Common.{List, None, Ok, Some, [], ap, arith, cond, inl, inr, length, subst, suc, sym, ℕ, ◌++◌, ◌<◌, ◌^◌, ◌∙◌, ◌∷◌, ◌≡◌, ◌≤◌, ◌⊎◌}
use Rattle.std.proofs.lemmas.Bool.{cases_order}

-- The value of a command that was asked, for a version that the log has or that comes next, over readers that keep the versions before it.
pub record MadeOver (n : ℕ) (asked : List Asked) (log : List (List ℕ)) (v : ℕ) (x : List Op) : Type 0 where
  pub before : ℕ
  pub next : v ≡ suc before
  pub within : before ≤ length log
  pub over : Readings
  pub keeps : Keeps log before over
  pub last : over.last ≡ before
  pub rank : ℕ
  pub session : Session
  pub command : Command
  pub of : WasAsked n asked rank session command
  pub made : value over command rank ≡ Ok x

-- each accepted value is such a value
abbrev pub AllMade : ℕ → Ghost → List Asked → List (List ℕ) → Type 0
AllMade n g asked log = (i v p : ℕ) (x : List Op) → Accepted g i v p x → MadeOver n asked log v x

abbrev pub AllAsked : ℕ → List Asked → List (List ℕ) → Type 0
AllAsked n asked log = (v : ℕ) → v < length log → IsAsked n asked log v

-- ---- more is asked

-- what was asked still is
abbrev pub StillAsked : ℕ → List Asked → List Asked → Type 0
StillAsked n asked more = (rank : ℕ) (s : Session) (c : Command) → WasAsked n asked rank s c → WasAsked n more rank s c

pub made_asked : (n : ℕ) (asked more : List Asked) (log : List (List ℕ)) (v : ℕ) (x : List Op) → StillAsked n asked more → MadeOver n asked log v x → MadeOver n more log v x
made_asked n asked more log v x still M = record {
  before = M.before;
  next = M.next;
  within = M.within;
  over = M.over;
  keeps = M.keeps;
  last = M.last;
  rank = M.rank;
  session = M.session;
  command = M.command;
  of = still M.rank M.session M.command M.of;
  made = M.made;
}

pub version_asked : (n : ℕ) (asked more : List Asked) (log : List (List ℕ)) (v : ℕ) → ((a : Asked) → Contains asked a → Contains more a) → IsAsked n asked log v → IsAsked n more log v
version_asked n asked more log v still A = record { by = A.by; was_asked = still A.by A.was_asked; rank = A.rank; command = A.command; is = A.is; form = A.form; ops = A.ops; made = A.made; has_text = A.has_text; encodes = A.encodes }

-- ---- the log grows

module _ {log more : List (List ℕ)} (F : IsPrefixOf log more) where
  pub keeps_stay : (c : ℕ) → c ≤ length log → (w : Readings) → Keeps log c w → Keeps more c w
  keeps_stay c le w K = record {
    first = K.first;
    records = λ v low. K.records v low ∙ ap (λ (bytes : List ℕ). cond (within (log_from c) (suc c) v) (Some bytes) None) (sym (entry_stays F v (omega arith)));
    rows = λ s k. K.rows s k ∙ ap (λ (is : List (List ℕ)). row_after s is k) (sym (incrementals_stay F s c le));
  }

  pub made_stays : (n : ℕ) (asked : List Asked) (v : ℕ) (x : List Op) → MadeOver n asked log v x → MadeOver n asked more v x
  made_stays n asked v x M = record {
    before = M.before;
    next = M.next;
    within = (let w = M.within in let s = F.short in omega arith);
    over = M.over;
    keeps = keeps_stay M.before M.within M.over M.keeps;
    last = M.last;
    rank = M.rank;
    session = M.session;
    command = M.command;
    of = M.of;
    made = M.made;
  }

  pub version_asked_stays : (n : ℕ) (asked : List Asked) (v : ℕ) → v < length log → IsAsked n asked log v → IsAsked n asked more v
  version_asked_stays n asked v lt A = record {
    by = A.by;
    was_asked = A.was_asked;
    rank = A.rank;
    command = A.command;
    is = A.is;
    form = A.form;
    ops = A.ops;
    made = ap (λ (w : Readings). value w A.command A.by.rank) view ∙ A.made;
    has_text = A.has_text;
    encodes = entry_stays F (suc v) (omega arith) ∙ A.encodes;
  }
    where
      view : view_at more v ≡ view_at log v
      view = ap (λ (m : Store). readings_of (apply_op (put_number area.Paxos key.LastCommitted v) m)) (fold_stays F v (omega arith))

-- ---- by a value that was made over all of it

module _ (n : ℕ) (few : n ≤ 15) (asked : List Asked) (log : List (List ℕ)) (room : length log < 2 ^ 62) (all : AllValues log) (x : List Op) (M : MadeOver n asked log (suc (length log)) x) where
  abbrev more : List (List ℕ)
  more = log ++ text x ∷ []

  whole : M.before ≡ length log
  whole = let e = M.next in omega arith

  keeps : Keeps log (length log) M.over
  keeps = subst (λ (c : ℕ). Keeps log c M.over) whole M.keeps

  pub is_value : IsValue M.over x
  is_value = record { command = M.command; form = M.of.form; asked = M.rank; rank = (let b = M.of.below in omega arith); newer = x; made = M.made; encoded = older_itself x }

  pub values_again : AllValues more
  values_again = growing.more_values log room all M.over keeps (M.last ∙ whole) x is_value

  pub is_next : IsVersion more (suc (length log)) x
  is_next = growing.new_version log room all M.over keeps (M.last ∙ whole) x is_value

  next_asked : IsAsked n asked more (length log)
  next_asked = record {
    by = M.of.by;
    was_asked = M.of.among;
    rank = (let e = M.of.at in let b = M.of.below in omega arith);
    command = M.command;
    is = M.of.command;
    form = M.of.form;
    ops = x;
    made = ap (λ (r : ℕ). value (view_at more (length log)) M.command r) M.of.at ∙ ap (λ (w : Readings). value w M.command M.rank) view ∙ value_told log (omega arith) all M.over keeps (M.last ∙ whole) M.command M.rank ∙ M.made;
    has_text = texts log room all M.over keeps (M.last ∙ whole) x is_value;
    encodes = entry_push log (text x);
  }
    where
      view : view_at more (length log) ≡ view_at log (length log)
      view = ap (λ (m : Store). readings_of (apply_op (put_number area.Paxos key.LastCommitted (length log)) m)) (fold_stays (log_prefix_push log (text x)) (length log) (omega arith))

  pub asked_again : AllAsked n asked log → AllAsked n asked more
  asked_again A v lt = by (cases_order v (length log))
    where
      by : (v ≡ length log) ⊎ ((v < length log) ⊎ (length log < v)) → IsAsked n asked more v
      by (inl e) = subst (IsAsked n asked more) (sym e) next_asked
      by (inr (inl low)) = version_asked_stays (log_prefix_push log (text x)) n asked v low (A v low)
      by (inr (inr high)) = let l = length_push log (text x) in absurd (omega arith)
