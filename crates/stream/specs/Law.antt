-- What the bytes of calls read as.
use Rattle.std.specs.Prelude.{◌≡◌, ℕ, ◌≤◌, true, List, [], ◌++◌, length, IsUtf8}
use Rattle.terminal.specs.Pages.{Page}
use Rattle.terminal.specs.Calls.{Call, effect, cost}
use Rattle.terminal.specs.Faults.{Sound, Narrow}
use Rattle.stream.specs.Bytes.{sent, Typed}
use Rattle.stream.specs.Reader.{viewed, view_of}
use Rattle.stream.specs.Grounded.{grounded}
use Rattle.stream.specs.Cursors.{cursor_of}

-- the bytes, read on lines as wide as the page's, are what the page shows
abbrev pub Shows : (ℕ → ℕ) → List ℕ → Page → Type 0
Shows cells bs p = viewed p ≡ view_of cells p.width bs

pub record ReadsBack : Type 0 where
  -- no call sends more bytes than it costs
  pub costs : (call : Call) → Typed call → length (sent call) ≤ cost call
  -- the test passes at no bytes, keeps passing behind each call's, and says that the bytes are UTF-8
  pub begins : grounded [] ≡ true
  pub stays : (call : Call) (bs : List ℕ) → Sound call → Typed call → grounded bs ≡ true → grounded (bs ++ sent call) ≡ true
  pub text : (bs : List ℕ) → grounded bs ≡ true → IsUtf8 bs
  -- Where the bytes show a page, the bytes with those of a call show the page after that call. Only a run that does not
  -- fit its line is left out.
  pub does : (cells : ℕ → ℕ) (call : Call) (bs : List ℕ) (p : Page) → Sound call → Typed call → grounded bs ≡ true → Narrow cells call p → Shows cells bs p → Shows cells (bs ++ sent call) (effect cells call p)
  -- the cursor can be found without the cells; it is in one line at any width, and never past its end
  pub cursor : (cells : ℕ → ℕ) (w : ℕ) (bs : List ℕ) → (view_of cells w bs).cursor ≡ cursor_of cells w bs
  pub line : (cells : ℕ → ℕ) (w v : ℕ) (bs : List ℕ) → (cursor_of cells w bs).row ≡ (cursor_of cells v bs).row
  pub column : (cells : ℕ → ℕ) (w : ℕ) (bs : List ℕ) → (cursor_of cells w bs).col ≤ w
