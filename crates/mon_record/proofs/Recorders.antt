-- What a call appends, by what is written before and after it.
use Rattle.std.proofs.Common.{◌≡◌, ◌≤◌, ℕ, List, [], length, Option, Some, None, refl, sym, subst, arith}
use Rattle.std.proofs.lemmas.List.{append-nil}
use Rattle.std.specs.Io.KnownBytes.{Appends}
use Rattle.mon_record.specs.Recorders.{Appended, Notes, Writes}
use Rattle.mon_record.specs.Tapes.{TapeView}
use Rattle.mon_record.specs.declared.recorder.Recorder.{Recorder}

appends_none : (held : Option (List ℕ)) → Appends held held []
appends_none None = tt
appends_none (Some bytes) = sym (append-nil bytes)

-- nothing is written
pub writes_none : (held : Option (List ℕ)) (t : TapeView) → Writes held held t t
writes_none held t = record { count = 0; within = omega arith; goes = appends_none held; stays = refl }

-- what waits may be written first
pub appended_after : {K : Type 0} (held : K → Option (List ℕ)) (x : List ℕ) (old between new : Recorder K)
    → Writes (held old.sink) (held between.sink) old.tape between.tape → Notes x between.tape new.tape → new.sink ≡ between.sink
    → Appended held x old new
appended_after held x old between new writes notes same = record {
  room = between.tape;
  whole = new.tape;
  between = held between.sink;
  first = writes;
  notes = notes;
  last = subst (λ k. Writes (held between.sink) (held k) new.tape new.tape) (sym same) (writes_none (held between.sink) new.tape);
}

-- what waits is written then
pub appended_before : {K : Type 0} (held : K → Option (List ℕ)) (x : List ℕ) (old between new : Recorder K)
    → Notes x old.tape between.tape → between.sink ≡ old.sink → Writes (held between.sink) (held new.sink) between.tape new.tape
    → Appended held x old new
appended_before held x old between new notes same writes = record {
  room = old.tape;
  whole = between.tape;
  between = held old.sink;
  first = writes_none (held old.sink) old.tape;
  notes = notes;
  last = subst (λ k. Writes (held k) (held new.sink) between.tape new.tape) same writes;
}
