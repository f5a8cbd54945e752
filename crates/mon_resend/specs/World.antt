-- The copies that are kept for all monitors, and how they change.
use Rattle.std.specs.Prelude.{ℕ, ◌-◌, ◌^◌, min, Bool, true, false, ◌&&◌, ◌||◌, nat_lt, List, [], ◌∷◌, length, map, take, get_or, slice_set, Option, Some, None, if◌then◌else◌}
use Rattle.std.specs.List.{flat_map, sum_by}
use Rattle.mon_decode.specs.declared.header.Header.{Header}
use Rattle.mon_decode.specs.Headers.{same_kind}
use Rattle.mon_link.specs.declared.link.Outgoing.{Outgoing}
use Rattle.mon_link.specs.declared.link.Peer.TheVariants.{Monitor}
use Rattle.mon_resend.specs.declared.copies.Copies.{Copies}
use Rattle.mon_resend.specs.declared.datagram.Part.{Part}
use Rattle.mon_resend.specs.declared.datagram.Part.TheVariants.{Whole, First, Later}
use Rattle.mon_resend.specs.declared.note.Event.{Event}
use Rattle.mon_resend.specs.declared.note.Event.TheVariants.{Rose, Deferred, LeftQuorum}
use Rattle.mon_resend.specs.declared.note.TheConstants.{NEVER}
use Rattle.mon_resend.specs.declared.outbox.Outbox.{Outbox}
use Rattle.mon_resend.specs.Again.{nothing, happened, begun, begins_now, continued, continues_now, received, is_known, called, is_dropped, piece_arrived, passed}
use Rattle.mon_resend.specs.Copied.{datagram}
use Rattle.mon_resend.specs.Datagrams.{part_of}
use Rattle.mon_resend.specs.Rows.{is_of_epoch}
use Rattle.mon_resend.specs.Shelves.{first_due, due_copies}
use Rattle.mon_wire.specs.declared.kind.Kind.TheVariants as kind

abbrev pub fresh : Copies
fresh = record {
  boxes =
      nothing ∷ nothing ∷ nothing ∷ nothing ∷ nothing ∷ nothing ∷ nothing ∷ nothing ∷ nothing ∷ nothing ∷ nothing ∷ nothing ∷ nothing ∷ nothing ∷ nothing ∷ [];
  epoch = 0;
  own = 0;
}

abbrev pub box_of : (rank : ℕ) → Copies → Outbox
box_of rank c = get_or c.boxes rank nothing

abbrev pub with_box : (rank : ℕ) → Outbox → Copies → Copies
with_box rank b c = record c { boxes = slice_set c.boxes rank b }

-- how often memory was refused for what was to be kept
abbrev pub unkept_of : Copies → ℕ
unkept_of c = min (sum_by (λ b. b.unkept) (take 15 c.boxes)) (2 ^ 64 - 1)

abbrev pub with_event : Event → ℕ → Outbox → Outbox
with_event event now b = record b { shelf = happened event now b.shelf }

abbrev pub each : Event → ℕ → Copies → Copies
each event now c = record c { boxes = map (λ b. with_event event now b) c.boxes }

-- ---- epochs

-- A message is sent or arrives. If its epoch is the greatest so far, the copies of earlier epochs are dropped.
abbrev pub risen : Header → ℕ → Copies → Copies
risen h now c = if is_of_epoch h.kind && nat_lt c.epoch h.epoch then each (Rose h.epoch) now (record c { epoch = h.epoch }) else c

-- the epoch of the last message that went, or 0 after a PROBE
abbrev pub in_epoch : Header → Copies → Copies
in_epoch h c =
    if same_kind h.kind kind.Probe then record c { own = 0 }
    else if is_of_epoch h.kind then record c { own = h.epoch }
    else c

-- A PROBE ends all copies, and an ACK ends those of PROPOSE.
abbrev pub without_ended : Header → ℕ → Copies → Copies
without_ended h now c =
    if same_kind h.kind kind.Probe then each LeftQuorum now c
    else if same_kind h.kind kind.Ack then each Deferred now c
    else c

-- ---- a datagram is given to send to a monitor

abbrev pub begins : Header → ℕ → Copies → Copies
begins h now c = without_ended h now (in_epoch h (risen h now c))

abbrev pub began : (memory : Bool) → (rank : ℕ) → Outgoing → Header → (total now : ℕ) → Copies → Copies
began memory rank out h total now c = with_box rank (begun memory out h total now (box_of rank (begins h now c))) (begins h now c)

abbrev pub begins_at : (rank : ℕ) → Header → (total len now : ℕ) → Copies → Bool
begins_at rank h total len now c = begins_now h total len now (box_of rank (begins h now c))

abbrev pub sent_part : Option Part → (memory : Bool) → (rank : ℕ) → List ℕ → ℕ → Copies → Copies
sent_part (Some (Whole h)) memory rank bytes now c = began memory rank (datagram (Monitor rank) bytes) h (length bytes) now c
sent_part (Some (First h total)) memory rank bytes now c = began memory rank (datagram (Monitor rank) bytes) h total now c
sent_part (Some (Later p)) memory rank bytes now c = with_box rank (continued memory (datagram (Monitor rank) bytes) (box_of rank c)) c
sent_part None memory rank bytes now c = c

abbrev pub sent : (memory : Bool) → (rank : ℕ) → List ℕ → ℕ → Copies → Copies
sent memory rank bytes now c = sent_part (part_of bytes) memory rank bytes now c

-- whether the datagram is sent now
abbrev pub is_part_sent : Option Part → (rank : ℕ) → List ℕ → ℕ → Copies → Bool
is_part_sent (Some (Whole h)) rank bytes now c = begins_at rank h (length bytes) (length bytes) now c
is_part_sent (Some (First h total)) rank bytes now c = begins_at rank h total (length bytes) now c
is_part_sent (Some (Later p)) rank bytes now c = continues_now (box_of rank c).under_way
is_part_sent None rank bytes now c = true

abbrev pub is_sent_now : (rank : ℕ) → List ℕ → ℕ → Copies → Bool
is_sent_now rank bytes now c = is_part_sent (part_of bytes) rank bytes now c

-- ---- a datagram arrives from a monitor

abbrev pub called_at : (rank : ℕ) → Header → ℕ → Copies → Copies
called_at rank h now c = if same_kind h.kind kind.Propose then with_box rank (called h.epoch c.own now (box_of rank c)) c else c

abbrev pub is_dropped_at : (rank : ℕ) → Header → ℕ → Copies → Bool
is_dropped_at rank h now c = same_kind h.kind kind.Propose && is_dropped h.epoch c.own now (box_of rank c)

abbrev pub received_at : (memory : Bool) → (rank : ℕ) → Header → List ℕ → ℕ → Copies → Copies
received_at memory rank h bytes now c = with_box rank (received memory h bytes now (box_of rank c)) c

abbrev pub whole_arrived : (memory : Bool) → (rank : ℕ) → Header → List ℕ → ℕ → Copies → Copies
whole_arrived memory rank h bytes now c =
    if is_dropped_at rank h now (risen h now c) then called_at rank h now (risen h now c)
    else received_at memory rank h bytes now (called_at rank h now (risen h now c))

abbrev pub is_whole_known : (rank : ℕ) → Header → List ℕ → ℕ → Copies → Bool
is_whole_known rank h bytes now c =
    is_dropped_at rank h now (risen h now c) || is_known h bytes (box_of rank (called_at rank h now (risen h now c)))

-- whether the first piece of a long message may be a repeated question; no piece ends a copy
abbrev pub asks : Header → Bool
asks h = same_kind h.kind kind.Begin || same_kind h.kind kind.Forward

abbrev pub first_arrived : (memory : Bool) → (rank : ℕ) → Header → List ℕ → ℕ → Copies → Copies
first_arrived memory rank h bytes now c = if asks h then received_at memory rank h bytes now c else c

abbrev pub is_first_known : (rank : ℕ) → Header → List ℕ → Copies → Bool
is_first_known rank h bytes c = asks h && is_known h bytes (box_of rank c)

abbrev pub part_arrived : Option Part → (memory : Bool) → (rank : ℕ) → List ℕ → ℕ → Copies → Copies
part_arrived (Some (Whole h)) memory rank bytes now c = whole_arrived memory rank h bytes now c
part_arrived (Some (First h total)) memory rank bytes now c = first_arrived memory rank h bytes now c
part_arrived (Some (Later p)) memory rank bytes now c = with_box rank (piece_arrived p now (box_of rank c)) c
part_arrived None memory rank bytes now c = c

abbrev pub arrived : (memory : Bool) → (rank : ℕ) → List ℕ → ℕ → Copies → Copies
arrived memory rank bytes now c = part_arrived (part_of bytes) memory rank bytes now c

-- whether the datagram isn't handed up
abbrev pub is_part_taken : Option Part → (rank : ℕ) → List ℕ → ℕ → Copies → Bool
is_part_taken (Some (Whole h)) rank bytes now c = is_whole_known rank h bytes now c
is_part_taken (Some (First h total)) rank bytes now c = is_first_known rank h bytes c
is_part_taken (Some (Later p)) rank bytes now c = false
is_part_taken None rank bytes now c = false

abbrev pub is_taken : (rank : ℕ) → List ℕ → ℕ → Copies → Bool
is_taken rank bytes now c = is_part_taken (part_of bytes) rank bytes now c

-- ---- time passes

abbrev pub all_passed : (again : Bool) → ℕ → Copies → Copies
all_passed again now c = record c { boxes = map (λ b. passed again now b) c.boxes }

-- the copies that are to be sent now, monitor by monitor
abbrev pub all_due_copies : (again : Bool) → ℕ → Copies → List Outgoing
all_due_copies again now c = flat_map (λ b. due_copies again now b.shelf) c.boxes

abbrev pub boxes_due : List Outbox → ℕ
boxes_due [] = NEVER
boxes_due (b ∷ boxes) = min (first_due b.shelf) (boxes_due boxes)

abbrev pub due_of : Copies → ℕ
due_of c = boxes_due (take 15 c.boxes)
