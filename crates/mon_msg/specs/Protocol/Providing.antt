-- The rows of a provider of synchronizations.
use Rattle.std.specs.Prelude.{ℕ, suc, ◌+◌, Bool, true, false, not, ◌&&◌, ◌||◌, nat_le, nat_lt, List, Some, None, Result, Ok, if◌then◌else◌, [], filter, length, slice_set, slice_index_or}
use Rattle.mon_bytes.specs.declared.entry.Entry.{Entry}
use Rattle.mon_msg.specs.Protocol.Course.{Course, ◌▸◌, ◌>>=◌, checked, dropped, provider_is}
use Rattle.mon_msg.specs.Protocol.Length.{fits}
use Rattle.mon_msg.specs.Protocol.Places.{is_after, is_done, is_cookie, no_cookie}
use Rattle.mon_msg.specs.Protocol.Records.{run_from, longest}
use Rattle.mon_msg.specs.Protocol.Sending.{send}
use Rattle.mon_wire.specs.declared.body.Body.TheVariants as body
use Rattle.mon_wire.specs.declared.body.Body.{Body}
use Rattle.mon_wire.specs.declared.parts.Cookie.{Cookie}
use Rattle.mon_wire.specs.declared.parts.Place.{Place}
use Rattle.mon_msg.specs.declared.view.Me.{Me}
use Rattle.mon_tx.specs.Keys.{shared}
use Rattle.mon_tx.specs.Decision.{Cell}
use Rattle.mon_tx.specs.declared.op.Op.{Op}
use Rattle.mon_types.specs.declared.names.Which.TheVariants as which
use Rattle.mon_types.specs.declared.names.Which.{Which}

-- ---- chunks

-- the records reach the last version
abbrev pub reach : (last : ℕ) → Place → List (List Op) → Bool
reach last p values = nat_le last (p.version + length values)

-- no shared entry is left after these entries; `left` are the shared entries after the place
abbrev pub is_finished : Place → (left : List Entry) → List Entry → Bool
is_finished p left entries = is_done p.key || nat_le (length left) (length entries)

-- `last` is the provider's last version
module _ (last : ℕ) (c : Cookie) (p : Place) (left : List Entry) where
  -- what is sent with these records and entries: the last chunk if both are at their end
  abbrev pub chunk_with : List (List Op) → List Entry → Body
  chunk_with values entries =
      if reach last p values && is_finished p left entries then body.LastChunk c p values entries last else
      body.Chunk c p values entries (is_finished p left entries)

  -- as many records after the place as one message among n monitors takes
  abbrev pub given_values : (n : ℕ) → (records : ℕ → Cell) → List (List Op)
  given_values n records = longest (λ values. fits n (chunk_with values [])) (run_from records last (suc p.version))

  -- and as many entries as it takes besides, once the records reach the last version
  abbrev pub given_entries : (n : ℕ) → List (List Op) → List Entry
  given_entries n values =
      if reach last p values && not (is_done p.key)
      then longest (λ entries. fits n (chunk_with values entries)) left
      else []

  unfoldable pub chunk : (n : ℕ) → (records : ℕ → Cell) → Body
  chunk n records = let values = given_values n records in chunk_with values (given_entries n values)

-- ---- cookies

module _ (me : Me) where
  -- f gets a new cookie
  abbrev pub grant : Bool → (f : ℕ) → Course → Result Course Which
  grant full f x = do
    seq ← checked which.Cookie x.state.provider.next_cookie
    let c : Cookie = record { boot = x.readings.boot; seq = seq } in Ok (x
        ▸ provider_is (record { cookies = slice_set x.state.provider.cookies f (Some c); next_cookie = suc seq })
        ▸ send me f (body.Cookie full c x.readings.last))

  unfoldable pub hear_get_cookie_full : (f : ℕ) → Course → Result Course Which
  hear_get_cookie_full f x = if x.readings.marked then dropped x else grant true f x

  unfoldable pub hear_get_cookie_recent : (f : ℕ) → (last : ℕ) → Course → Result Course Which
  hear_get_cookie_recent f last x =
      if x.readings.marked then dropped x else (
      if nat_lt (suc last) x.readings.first then Ok (send me f (body.NoCookie no_cookie) x) else grant false f x)

  -- `shared` are the entries that are shared, in order
  unfoldable pub hear_get_chunk : (shared : List Entry) → (f : ℕ) → Cookie → Place → Course → Result Course Which
  hear_get_chunk shared f c p x =
      let w = x.readings in
      let is_known = is_cookie c (slice_index_or x.state.provider.cookies f None) in
      let left = filter (is_after p.key) shared in
      if w.marked then dropped x else (
      if not is_known || nat_lt (suc p.version) w.first then Ok (send me f (body.NoCookie c) x) else
      Ok (send me f (chunk w.last c p left me.member.monitors w.record_of) x))
