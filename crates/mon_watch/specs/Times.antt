-- What is counted of a disk's calls. Sums saturate at the greatest 64-bit number.
use Rattle.std.specs.Prelude.{ℕ, ◌+◌, ◌-◌, ◌^◌, min, max, Bool, List, nat_le, slice_set, slice_index_or, replicate, if◌then◌else◌}
use lib.Count.{count_leading_zeros}
use Rattle.mon_types.specs.Faults.{risen}
use Rattle.mon_watch.specs.declared.times.DiskTimes.{DiskTimes}
use Rattle.mon_watch.specs.declared.times.TheConstants.{SLOW}

abbrev pub plus : ℕ → ℕ → ℕ
plus n more = min (n + more) (2 ^ 64 - 1)

abbrev pub no_times : DiskTimes
no_times = record {
  syncs = 0;
  total = 0;
  greatest = 0;
  buckets = replicate 16 0;
  slow = 0;
  last_slow = 0;
  writes = 0;
  written = 0;
  reads = 0;
  fetched = 0;
  length = 0;
}

-- The bucket of a time is how many binary digits it has, at most 15. So bucket k has the times below 2^k ms that no earlier one has, and the
-- last one all others.
abbrev pub bucket_of : ℕ → ℕ
bucket_of time = min 15 (64 - count_leading_zeros 64 time)

abbrev pub counted_in : ℕ → List ℕ → List ℕ
counted_in k buckets = slice_set buckets k (risen (slice_index_or buckets k 0))

-- a sync that took this many milliseconds
abbrev pub after_sync : ℕ → DiskTimes → DiskTimes
after_sync time t = record t {
  syncs = risen t.syncs;
  total = plus t.total time;
  greatest = max t.greatest time;
  buckets = counted_in (bucket_of time) t.buckets;
  slow = if nat_le SLOW time then risen t.slow else t.slow;
  last_slow = if nat_le SLOW time then time else t.last_slow;
}

-- a write of this many bytes at a place, which succeeded or failed
abbrev pub after_write : (at bytes : ℕ) → (succeeded : Bool) → DiskTimes → DiskTimes
after_write at bytes succeeded t = record t {
  writes = risen t.writes;
  written = plus t.written bytes;
  length = if succeeded then max t.length (plus at bytes) else t.length;
}

-- a read of this many bytes
abbrev pub after_read : (bytes : ℕ) → DiskTimes → DiskTimes
after_read bytes t = record t { reads = risen t.reads; fetched = plus t.fetched bytes }

-- the disk had this length when it was asked
abbrev pub after_length : (length : ℕ) → DiskTimes → DiskTimes
after_length length t = record t { length = length }
