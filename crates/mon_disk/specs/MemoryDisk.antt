-- A disk in memory: its lives, and what can be seen of them.
use Rattle.std.specs.Prelude.{◌≡◌, ◌⊎◌, ◌++◌, ◌+◌, ℕ, suc, max, Bool, true, false, List, [], ◌∷◌, map, length, get_or, Option, Some, None}
use Rattle.std.specs.List.{flat_map}
use Rattle.mon_types.specs.Faults.{risen}
use Rattle.mon_types.specs.declared.names.Stop.{Stop}
use Rattle.mon_types.specs.declared.names.Stop.TheVariants.{Failed, OutOfMemory}
use Rattle.mon_disk.specs.declared.disk.DiskCall.{DiskCall}
use Rattle.mon_disk.specs.declared.disk.DiskCall.TheVariants.{Write, Sync}
use Rattle.mon_disk.specs.declared.history.Step.{Step}
use Rattle.mon_disk.specs.declared.history.Step.TheVariants as step
use Rattle.mon_disk.specs.Images.{Content}
use Rattle.mon_disk.specs.Calls.{Observed, DiskState, is_past}
use Rattle.mon_disk.specs.Memory.{Lived, Lives, begins_with, LeftAfter, begun, seen_of, settled, from_of}

-- the lives that ended with a settling, oldest first, and the one that goes on; the known length; the faults, and the failed
-- allocations
pub record MemoryState : Type 0 where
  pub past : List Lived
  pub life : Lived
  pub known : ℕ
  pub faults : ℕ
  pub refusals : ℕ

-- the life with these calls
abbrev pub with_calls : Lived → List DiskCall → Lived
with_calls life calls = record { first = life.first; calls = calls; upset = life.upset }

abbrev pub and_call : DiskCall → Lived → Lived
and_call call life = with_calls life (life.calls ++ call ∷ [])

-- What a crash may leave: what a read gives, what the disk settles to, or what else became of the writes that aren't on
-- the disk.
abbrev pub Leaves : Lived → List ℕ → Type 0
Leaves life c = (c ≡ seen_of life) ⊎ (c ≡ settled life) ⊎ LeftAfter life.first (begun life) c

-- the proper prefixes of a list, the shortest first
abbrev pub beginnings : List DiskCall → List (List DiskCall)
beginnings [] = []
beginnings (call ∷ calls) = [] ∷ map (λ cs. call ∷ cs) (beginnings calls)

-- a life as it was before each of its calls
abbrev pub before_calls : Lived → List Lived
before_calls life = map (with_calls life) (beginnings life.calls)

-- the lives as they were at each point before now
abbrev pub earlier : List Lived → Lived → List Lived
earlier past life = flat_map (λ l. before_calls l ++ l ∷ []) past ++ before_calls life

abbrev pub content_of : List Lived → Lived → Content
content_of past life = record {
  seen = Some (seen_of life);
  time = length (earlier past life);
  images_at = λ t. Leaves (get_or (earlier past life) t life);
}

abbrev pub observed_of : Lived → Observed
observed_of life = record { made = life.calls; fails_from = from_of life.upset; settles = λ calls. settled (with_calls life calls) }

-- what can be seen of the disk
abbrev pub state_of : MemoryState → DiskState
state_of d = record { content = content_of d.past d.life; known = d.known; observed = Some (observed_of d.life); faults = d.faults; refusals = d.refusals }

-- whether the next write or sync fails
abbrev pub fails : Lived → Bool
fails life = is_past (from_of life.upset) (suc (length life.calls))

-- the known length after a call
abbrev pub known_after : DiskCall → ℕ → ℕ
known_after (Write at bytes) known = max known (at + length bytes)
known_after Sync known = known

-- The disk after a call with this result: a call that was made is added to the life, failed or not; without memory a
-- failed allocation is counted.
abbrev pub after_call : DiskCall → Option Stop → MemoryState → MemoryState
after_call call None d = record { past = d.past; life = and_call call d.life; known = known_after call d.known; faults = d.faults; refusals = d.refusals }
after_call call (Some Failed) d = record { past = d.past; life = and_call call d.life; known = d.known; faults = risen d.faults; refusals = d.refusals }
after_call call (Some OutOfMemory) d = record { past = d.past; life = d.life; known = d.known; faults = d.faults; refusals = risen d.refusals }

-- A result that the life allows: Failed if and only if the injected fault applies to the call. OutOfMemory is always
-- allowed.
abbrev pub IsFor : Option Stop → Lived → Type 0
IsFor None life = fails life ≡ false
IsFor (Some Failed) life = fails life ≡ true
IsFor (Some OutOfMemory) life = Unit {0}

-- the life in which the call-th write or sync from now is the first that fails
abbrev pub injected_life : ℕ → ℕ → Lived → Lived
injected_life call image life = record {
  first = life.first;
  calls = life.calls;
  upset = Some (record { from = length life.calls + call; image = image });
}

-- the disk after an injected fault
abbrev pub injected_by : ℕ → ℕ → MemoryState → MemoryState
injected_by call image d = record { past = d.past; life = injected_life call image d.life; known = d.known; faults = d.faults; refusals = d.refusals }

-- the disk after it settled
abbrev pub settle_of : MemoryState → MemoryState
settle_of d = record { past = d.past ++ d.life ∷ []; life = begins_with (settled d.life); known = 0; faults = d.faults; refusals = d.refusals }

-- the lives after what happens to a disk
abbrev pub lives_after : Step → Lives → Lives
lives_after (step.Write at bytes) d = record { past = d.past; life = and_call (Write at bytes.now) d.life }
lives_after step.Sync d = record { past = d.past; life = and_call Sync d.life }
lives_after (step.InjectedFault call image) d = record { past = d.past; life = injected_life call image d.life }
lives_after step.Settle d = record { past = d.past ++ d.life ∷ []; life = begins_with (settled d.life) }
