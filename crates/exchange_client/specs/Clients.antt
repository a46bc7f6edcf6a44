-- A client, and the replies that it accepts.
use Rattle.std.specs.Prelude.{◌≡◌, ◌≢◌, ℕ, ◌||◌, ◌==◌, List, [], Bool, false, Option, Some, None, Result, Ok, Err, if◌then◌else◌}
use Rattle.col_pages.specs.Pages.{TypedPage}
use Rattle.page_window.specs.declared.reply.Reply.{Reply}
use Rattle.exchange_client.specs.declared.client.Stale.{Stale}

-- the token that the client asks for next, and whether a complete reply was accepted
pub record ClientState : Type 0 where
  pub next : ℕ
  pub is_complete : Bool

-- a reply as it is kept: its token, its pages, the token behind them, and whether it is complete
pub record KeptValue : Type 0 where
  pub token : ℕ
  pub pages : List TypedPage
  pub next : ℕ
  pub is_complete : Bool

-- a reply as it would be kept
abbrev pub kept_as : Reply → KeptValue
kept_as r = record { token = r.token; pages = r.pages; next = r.next; is_complete = r.complete }

-- a reply whose pages were given, and so are not kept
abbrev pub given_away : KeptValue → KeptValue
given_away r = record r { pages = [] }

-- the client after a reply that it accepts
abbrev pub accepted : ClientState → KeptValue → ClientState
accepted c r = record { next = r.next; is_complete = c.is_complete || r.is_complete }

-- the pages of the next token, or the reply back, exactly where its token is another
abbrev pub IsAccepted : ClientState → Reply → Result (List TypedPage) Stale → Type 0
IsAccepted c r (Ok pages) = (r.token ≡ c.next) × (pages ≡ r.pages)
IsAccepted c r (Err stale) = (r.token ≢ c.next) × (stale.next ≡ c.next) × (stale.reply ≡ r)

-- whether a reply that arrives is accepted
abbrev pub is_next : ClientState → Option KeptValue → Bool
is_next c None = false
is_next c (Some r) = r.token == c.next

-- the pages that a client gives of what arrives, and the client afterwards
abbrev pub pages_given : ClientState → Option KeptValue → List TypedPage
pages_given c None = []
pages_given c (Some r) = if r.token == c.next then r.pages else []

abbrev pub client_after : ClientState → Option KeptValue → ClientState
client_after c None = c
client_after c (Some r) = if r.token == c.next then accepted c r else c

-- what arrives, where it is accepted
abbrev pub unless_stale : ClientState → Option KeptValue → Option KeptValue
unless_stale c None = None
unless_stale c (Some r) = if r.token == c.next then Some r else None
