-- What a window answers.
use Rattle.std.specs.Prelude.{◌≡◌, ℕ, ◌<◌, ◌≤◌, ◌&&◌, ◌==◌, List, take, drop, Result, Ok, Err}
use Rattle.col_pages.specs.Pages.{TypedPage}
use Rattle.page_window.specs.Windows.{WindowState, IsWindowOf, end_of, from_token}
use Rattle.page_window.specs.declared.reply.Reply.{Reply}
use Rattle.page_window.specs.declared.fault.AckAhead.{AckAhead}
use Rattle.page_window.specs.declared.fault.FetchFault.{FetchFault}
use Rattle.page_window.specs.declared.fault.FetchFault.TheVariants.{TokenGone, TokenAhead, Memory}

-- the window has the token: its page is held, or it is the end
pub record HasToken (w : WindowState) (token : ℕ) : Type 0 where
  pub held : w.base ≤ token
  pub within : token ≤ end_of w

-- the pages from a token on, at most so many; complete exactly where no page is behind them or will come
pub record IsReplyOf (w : WindowState) (asked most : ℕ) (r : Reply) : Type 0 where
  pub token : r.token ≡ asked
  pub pages : r.pages ≡ take most (from_token w asked)
  pub complete : r.complete ≡ (w.is_ended && r.next == end_of w)

-- a reply, or why there is none
abbrev pub IsFetched : WindowState → ℕ → ℕ → Result Reply FetchFault → Type 0
IsFetched w token most (Ok r) = HasToken w token × IsReplyOf w token most r
IsFetched w token most (Err (TokenGone base)) = (token < w.base) × (base ≡ w.base)
IsFetched w token most (Err (TokenAhead end)) = (end_of w < token) × (end ≡ end_of w)
IsFetched w token most (Err Memory) = HasToken w token

-- the pages of a reply are those that were put from its token on
abbrev pub ArePagesOf : WindowState → ℕ → ℕ → List TypedPage → Type 0
ArePagesOf w token most pages =
    (put : List TypedPage) → IsWindowOf put w → pages ≡ take most (drop token put)

-- an acknowledgement is refused exactly where its token is past the end
abbrev pub IsAcknowledged : {A : Type 0} → WindowState → ℕ → Result A AckAhead → Type 0
IsAcknowledged w token (Ok done) = token ≤ end_of w
IsAcknowledged w token (Err ahead) = (end_of w < token) × (ahead.end ≡ end_of w)
