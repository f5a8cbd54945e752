use Rattle.std.proofs.Common.{◌≡◌, ℕ, Result, refl, sym, subst}
use Rattle.mon_wire.specs.Message.Bodies.{body_at}
use Rattle.mon_bytes.specs.Reading.{Reading}
use Rattle.mon_wire.specs.Message.Format.{Reads}
use Rattle.mon_wire.specs.declared.body.Body.{Body}
use Rattle.mon_wire.specs.declared.kind.Kind.{Kind}
use Rattle.mon_wire.specs.declared.kind.Kind.TheVariants as kind
use Rattle.mon_wire.specs.declared.refusal.MsgRefused.{MsgRefused}
use Rattle.mon_decode.proofs.read_body.read_body.Goals as goal

-- what is read as a body of one kind is read as one of a kind that equals it
module _ (n own : ℕ) (k : Kind) (kind : Kind) (is : k ≡ kind) (result : Result Body MsgRefused) (new old : Reading) where
  as_kind : Reads (λ x. x) result new (body_at n own kind old) → Reads (λ x. x) result new (body_at n own k old)
  as_kind r = subst (λ (k : Kind). Reads (λ x. x) result new (body_at n own k old)) (sym is) r

pub returns-in-ProbeReply : goal.returns-in-ProbeReply
returns-in-ProbeReply c = as_kind c.args.n c.args.own c.args.kind kind.ProbeReply c.in-ProbeReply.is c.read_probe_reply.result c.read_probe_reply.new.cursor c.args.cursor.now (c.read_probe_reply.ensures c.args.own)

pub returns-in-Collect : goal.returns-in-Collect
returns-in-Collect c = as_kind c.args.n c.args.own c.args.kind kind.Collect c.in-Collect.is c.read_collect.result c.read_collect.new.cursor c.args.cursor.now (c.read_collect.ensures c.args.n c.args.own)

pub returns-in-Last : goal.returns-in-Last
returns-in-Last c = as_kind c.args.n c.args.own c.args.kind kind.Last c.in-Last.is c.read_last.result c.read_last.new.cursor c.args.cursor.now (c.read_last.ensures c.args.n c.args.own)

pub returns-in-Begin : goal.returns-in-Begin
returns-in-Begin c = as_kind c.args.n c.args.own c.args.kind kind.Begin c.in-Begin.is c.read_begin.result c.read_begin.new.cursor c.args.cursor.now (c.read_begin.ensures c.args.n c.args.own)

pub returns-in-Accept : goal.returns-in-Accept
returns-in-Accept c = as_kind c.args.n c.args.own c.args.kind kind.Accept c.in-Accept.is c.read_accept.result c.read_accept.new.cursor c.args.cursor.now (c.read_accept.ensures c.args.n c.args.own)

pub returns-in-Commit : goal.returns-in-Commit
returns-in-Commit c = as_kind c.args.n c.args.own c.args.kind kind.Commit c.in-Commit.is c.read_commit.result c.read_commit.new.cursor c.args.cursor.now (c.read_commit.ensures c.args.n c.args.own)

pub returns-in-Forward : goal.returns-in-Forward
returns-in-Forward c = as_kind c.args.n c.args.own c.args.kind kind.Forward c.in-Forward.is c.read_forward.result c.read_forward.new.cursor c.args.cursor.now (c.read_forward.ensures c.args.n c.args.own)

pub returns-in-Route : goal.returns-in-Route
returns-in-Route c = as_kind c.args.n c.args.own c.args.kind kind.Route c.in-Route.is c.read_route.result c.read_route.new.cursor c.args.cursor.now (c.read_route.ensures c.args.n c.args.own)

pub returns-in-Cookie : goal.returns-in-Cookie
returns-in-Cookie c = as_kind c.args.n c.args.own c.args.kind kind.Cookie c.in-Cookie.is c.read_granted.result c.read_granted.new.cursor c.args.cursor.now (c.read_granted.ensures c.args.n c.args.own)

pub returns-in-GetChunk : goal.returns-in-GetChunk
returns-in-GetChunk c = as_kind c.args.n c.args.own c.args.kind kind.GetChunk c.in-GetChunk.is c.read_get_chunk.result c.read_get_chunk.new.cursor c.args.cursor.now (c.read_get_chunk.ensures c.args.n c.args.own)

pub returns-in-Chunk : goal.returns-in-Chunk
returns-in-Chunk c = as_kind c.args.n c.args.own c.args.kind kind.Chunk c.in-Chunk.is c.read_chunk.result c.read_chunk.new.cursor c.args.cursor.now (c.read_chunk.ensures.chunk refl c.args.n c.args.own)

pub returns-in-LastChunk : goal.returns-in-LastChunk
returns-in-LastChunk c = as_kind c.args.n c.args.own c.args.kind kind.LastChunk c.in-LastChunk.is c.read_chunk-in-LastChunk.result c.read_chunk-in-LastChunk.new.cursor c.args.cursor.now (c.read_chunk-in-LastChunk.ensures.last_chunk refl c.args.n c.args.own)

pub returns-in-Request : goal.returns-in-Request
returns-in-Request c = as_kind c.args.n c.args.own c.args.kind kind.Request c.in-Request.is c.read_asked.result c.read_asked.new.cursor c.args.cursor.now (c.read_asked.ensures c.args.n c.args.own)

pub returns-in-Reply : goal.returns-in-Reply
returns-in-Reply c = as_kind c.args.n c.args.own c.args.kind kind.Reply c.in-Reply.is c.read_answered.result c.read_answered.new.cursor c.args.cursor.now (c.read_answered.ensures c.args.n c.args.own)
