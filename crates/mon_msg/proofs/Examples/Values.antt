-- The values of some versions, if each version of the log is one of the key-value service.
use Rattle.std.proofs.Common.{◌≡◌, ℕ, List, [], ◌∷◌, refl}
use Rattle.mon_tx.specs.declared.op.Op.TheVariants.{EraseRange}
use Rattle.mon_tx.specs.declared.key.Area.TheVariants.{Paxos, Kv}
use Rattle.mon_tx.specs.declared.key.Key.TheVariants.{FirstCommitted, LastCommitted, FullLatest, Version, Full}
use Rattle.mon_tx.specs.Keys.{area_text}
use Rattle.mon_msg.specs.Puts.{put, put_number}
use Rattle.mon_msg.specs.Protocol.Changes.{erase}
use Rattle.mon_msg.specs.Protocol.Rules.{value_ops}

module _ (x text : List ℕ) where
  -- the first version is the first of the log and of the service
  first : value_ops 0 0 Kv 1 0 x text
      ≡ put_number Paxos FirstCommitted 1 ∷ put Kv (Version 1) x ∷ put_number Kv FirstCommitted 1 ∷ put_number Kv LastCommitted 1 ∷ []
  unfolding value_ops
  first = refl

  -- a multiple of 25 keeps the map
  whole : value_ops 1 24 Kv 25 1 x text
      ≡ put Kv (Version 25) x ∷ put_number Kv LastCommitted 25 ∷ put Kv (Full 25) text ∷ put_number Kv FullLatest 25 ∷ []
  unfolding value_ops
  whole = refl

  -- 75 versions after its first one the service is trimmed, with the full map that lies there
  trimmed : value_ops 1 750 Kv 751 676 x text
      ≡ put Kv (Version 751) x ∷ put_number Kv LastCommitted 751 ∷ EraseRange (area_text Kv) 676 701 ∷ erase Kv (Full 700) ∷ put_number Kv FirstCommitted 701 ∷ []
  unfolding value_ops
  trimmed = refl

  -- 750 versions after its first one the log isn't trimmed yet, and with the next one it is
  not_yet : value_ops 1 751 Kv 752 701 x text ≡ put Kv (Version 752) x ∷ put_number Kv LastCommitted 752 ∷ []
  unfolding value_ops
  not_yet = refl

  log_trimmed : value_ops 1 752 Kv 753 701 x text
      ≡ put Kv (Version 753) x ∷ put_number Kv LastCommitted 753 ∷ EraseRange (area_text Paxos) 1 252 ∷ put_number Paxos FirstCommitted 252 ∷ []
  unfolding value_ops
  log_trimmed = refl
