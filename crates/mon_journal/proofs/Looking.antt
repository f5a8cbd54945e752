-- Calls that only read, one after the other.
use Rattle.std.proofs.Common.{◌≡◌, ℕ, ◌+◌, ◌-◌, ◌≤◌, List, ◌++◌, length, take, drop, Option, Some, None, refl, sym, ap, subst, ◌∙◌, arith}
use Rattle.std.specs.Prelude.{IfSome}
use Rattle.std.proofs.lemmas.List.{take-append-drop, take-append-le, drop-append-le, drop-drop, length-drop}
use Rattle.mon_journal.proofs.Heads.{each_file}
use Rattle.mon_types.specs.declared.names.Stop.{Stop}
use Rattle.mon_types.specs.declared.names.Stop.TheVariants.{OutOfMemory}
use Rattle.mon_disk.specs.Images.{images}
use Rattle.mon_disk.specs.Calls.{DiskState}
use Rattle.mon_disk.proofs.Following.{none, then_calls, without_memory, now}
use Rattle.mon_journal.specs.Pieces.{PieceState, IsPieceOf, OnlyReads}

pub nothing_read : (d : DiskState) → OnlyReads None d d
nothing_read d = record { call = none d (images d.content) (λ c left. left); seen = refl }

pub then_reads : (stop : Option Stop) (old mid new : DiskState) → OnlyReads None old mid → OnlyReads stop mid new → OnlyReads stop old new
then_reads stop old mid new first second = record {
  call = then_calls (images old.content) (images mid.content) (images old.content) first.call second.call (λ c left. left) (λ c left. now old.content mid.content (images old.content) first.call.any_time c left);
  seen = second.seen ∙ first.seen;
}

pub without : (old new : DiskState) → OnlyReads None old new → OnlyReads (Some OutOfMemory) old new
without old new r = record { call = without_memory (images old.content) r.call; seen = r.seen }

-- a piece of a disk's file is also a piece of it after a call that changes nothing
pub still_piece : (old new : DiskState) (piece : PieceState) → new.content.seen ≡ old.content.seen → new.known ≡ old.known → IsPieceOf old piece → IsPieceOf new piece
still_piece old new piece seen known is = record {
  known = known ∙ is.known;
  long = subst (λ (s : Option (List ℕ)). IfSome s (λ file. piece.end ≡ length file)) (sym seen) is.long;
  part = subst (λ (s : Option (List ℕ)). IfSome s (λ file. piece.bytes ≡ take (length piece.bytes) (drop piece.at file))) (sym seen) is.part;
}

-- bytes of a piece are bytes of the file
pub cut_piece : (d : DiskState) (piece : PieceState) (seen : Option (List ℕ)) (at count : ℕ) (bytes : List ℕ) → IsPieceOf d piece → d.content.seen ≡ seen → piece.at ≤ at → at + count ≤ piece.at + length piece.bytes
    → bytes ≡ take count (drop (at - piece.at) piece.bytes) → IfSome seen (λ file. bytes ≡ take count (drop at file))
cut_piece d piece seen at count bytes is same from to read =
    each_file seen (λ file. piece.bytes ≡ take (length piece.bytes) (drop piece.at file)) (λ file. bytes ≡ take count (drop at file)) cut
    (subst (λ (s : Option (List ℕ)). IfSome s (λ file. piece.bytes ≡ take (length piece.bytes) (drop piece.at file))) same is.part)
  where
    cut : (file : List ℕ) → piece.bytes ≡ take (length piece.bytes) (drop piece.at file) → bytes ≡ take count (drop at file)
    cut file part =
        let k = at - piece.at in
        let rest = drop (length piece.bytes) (drop piece.at file) in
        let whole : drop piece.at file ≡ piece.bytes ++ rest = sym (take-append-drop (length piece.bytes) (drop piece.at file)) ∙ ap (λ (l : List ℕ). l ++ rest) (sym part) in
        let place : piece.at + k ≡ at = omega (arith, from) in
        let there : drop at file ≡ drop k piece.bytes ++ rest =
        ap (λ (n : ℕ). drop n file) (sym place) ∙ sym (drop-drop k piece.at file) ∙ ap (λ (l : List ℕ). drop k l) whole ∙ drop-append-le k piece.bytes rest (omega (arith, from, to)) in
        read ∙ sym (ap (λ (l : List ℕ). take count l) there ∙ take-append-le count (drop k piece.bytes) rest (omega (arith, from, to, length-drop k piece.bytes)))
