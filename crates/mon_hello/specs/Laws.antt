-- The laws of identities and hellos.
use Rattle.std.specs.Prelude.{◌≡◌, ◌≤◌, ℕ, List, length, Ok, None}
use Rattle.mon_bytes.specs.Reading.{IsBytes}
use Rattle.mon_hello.specs.declared.hello.Hello.{Hello}
use Rattle.mon_hello.specs.declared.identity.Identity.{Identity}
use Rattle.mon_link.specs.declared.link.Got.TheVariants.{Datagram}
use Rattle.mon_link.specs.declared.link.Peer.TheVariants.{Client}
use Rattle.mon_hello.specs.Formats.{an_identity, a_hello, answering, hello_of}
use Rattle.mon_hello.specs.Greets.{asker}

-- two identities never have one encoding
abbrev pub IdentitiesApart : Type 0
IdentitiesApart = (a b : Identity) → an_identity.Form a → an_identity.Form b → an_identity.text a ≡ an_identity.text b → a ≡ b

-- a hello is read from its encoding
abbrev pub HelloReadBack : Type 0
HelloReadBack = (h : Hello) → a_hello.Form h → hello_of (a_hello.text h) ≡ Ok h

-- only the encoding of a hello is read
abbrev pub HelloOnly : Type 0
HelloOnly = (bytes : List ℕ) (h : Hello) → IsBytes bytes → hello_of bytes ≡ Ok h → a_hello.Form h × (bytes ≡ a_hello.text h)

-- the answer to a hello is itself not answered, whoever gets it from a client
abbrev pub AnswersEnd : Type 0
AnswersEnd = (h : Hello) (c : ℕ) → a_hello.Form h → asker (Datagram (Client c) (a_hello.text (answering h))) ≡ None

-- a hello fits in one datagram
abbrev pub HelloShort : Type 0
HelloShort = (h : Hello) → a_hello.Form h → length (a_hello.text h) ≤ 385
