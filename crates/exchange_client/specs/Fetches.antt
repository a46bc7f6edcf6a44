-- A fetch: a window, a client that reads it, and the replies that may still come between them.
use Rattle.std.specs.Prelude.{◌≡◌, ℕ, ◌+◌, ◌-◌, ◌^◌, ◌<◌, ◌≤◌, ◌++◌, ◌&&◌, ◌==◌, List, [], length, take, true, false, Bool, not, All, if◌then◌else◌}
use Rattle.col_pages.specs.Pages.{TypedPage}
use Rattle.page_window.specs.Windows.{WindowState, end_of, from_token, acknowledged}
use Rattle.exchange_client.specs.Clients.{ClientState, KeptValue}

-- the window and the client; the latest replies, the oldest first; how many turns the courier missed; how many
-- steps in a row had no reply accepted, counted up to 64; and how many pages a reply has at most
pub record FetchState : Type 0 where
  pub window : WindowState
  pub client : ClientState
  pub kept : List KeptValue
  pub missed : ℕ
  pub fruitless : ℕ
  pub most : ℕ

-- the pages still to be given
abbrev pub rest : FetchState → List TypedPage
rest f = from_token f.window f.client.next

-- the pages that were put are those that were given so far and those still to be given
abbrev pub Carries : List TypedPage → List TypedPage → FetchState → Type 0
Carries put given f = put ≡ given ++ rest f

-- a reply that may arrive: it is not ahead of the client; where its token is the client's next, it has its pages, which
-- are the first of those still to be given; and a complete one ends where the window ends
pub record MayArrive (w : WindowState) (next : ℕ) (r : KeptValue) : Type 0 where
  pub past : r.token ≤ next
  pub whole : r.token ≡ next → r.next ≡ r.token + length r.pages
  pub first : r.token ≡ next → (more : List TypedPage) × (from_token w next ≡ r.pages ++ more)
  pub ended : r.is_complete ≡ true → (w.is_ended ≡ true) × (r.next ≡ end_of w)

-- the client's next token is one that the window has, and what is kept may arrive
pub record KeepsTokens (w : WindowState) (c : ClientState) (most : ℕ) (kept : List KeptValue) : Type 0 where
  pub some : 0 < most
  pub low : w.base ≤ c.next
  pub high : c.next ≤ end_of w
  pub complete : c.is_complete ≡ true → (w.is_ended ≡ true) × (c.next ≡ end_of w)
  pub arrives : All (MayArrive w c.next) kept

-- the last token that there is
abbrev pub last_token : ℕ
last_token = 2 ^ 64 - 1

-- there is room for a page: fewer than 32 are held, and a token is left
abbrev pub HasRoom : FetchState → Type 0
HasRoom f = (length f.window.held < 32) × (end_of f.window < last_token)

-- all tokens are used, no page is still to be given, and more may come
abbrev pub is_used_up : FetchState → Bool
is_used_up f = not f.window.is_ended && (end_of f.window == last_token && f.client.next == end_of f.window)

-- a fetch to which nothing was put, with the counts of this one
abbrev pub begun_anew : FetchState → FetchState
begun_anew f = record f {
  window = record { base = 0; held = []; is_ended = false };
  client = record { next = 0; is_complete = false };
  kept = [];
}

-- how a step prepares: it starts anew where all tokens are used, and else acknowledges what was given
abbrev pub prepared_if : Bool → FetchState → FetchState
prepared_if anew f = if anew then begun_anew f else record f { window = acknowledged f.window f.client.next }

abbrev pub prepared : FetchState → FetchState
prepared f = prepared_if (is_used_up f) f

-- the reply to the client's next token
abbrev pub fresh_of : FetchState → KeptValue
fresh_of f = record {
  token = f.client.next;
  pages = take f.most (rest f);
  next = f.client.next + length (take f.most (rest f));
  is_complete = f.window.is_ended && f.client.next + length (take f.most (rest f)) == end_of f.window;
}

-- the same pages are still to be given, and nothing else changed that a caller counts on
pub record KeepsRest (old new : FetchState) : Type 0 where
  pub pages : rest new ≡ rest old
  pub ended : new.window.is_ended ≡ old.window.is_ended
  pub turns : new.missed ≡ old.missed

-- a reply without pages leaves none to be given, and is complete where no more will come
pub record GivesWhatIsLeft (f : FetchState) (r : KeptValue) : Type 0 where
  pub empty : r.pages ≡ [] → rest f ≡ []
  pub whole : f.window.is_ended ≡ true → rest f ≡ [] → r.is_complete ≡ true
