-- Pages one after another make the whole text of a listing. Assumes nothing.
use mathlib.Core.Path.{◌≡◌, refl, sym, ap, ◌∙◌}
use mathlib.Core.Bool.{Bool, true, false}
use mathlib.Core.List.{List, [], ◌∷◌, ◌++◌}
use Prim.Native.Nat.{ℕ, zero, suc, ◌+◌, ◌-◌, ◌≤◌, ◌<◌}
use native.Mathlib.Decide.{dec_lt}
use native.Mathlib.Omega.{arith}
use borrow.Author.Tests.{leb-true, le-leb}
use lib.Dec.{leb}
use lib.ListN.{length, get_or, drop, length-append, drop_of_length-le}
use lib.Seq.{drop-cons, drop-drop}
use Rattle.bundle.specs.Lists.{back_to_back}
use Rattle.bundle.specs.Chunks.{chunks_of}
use Rattle.bundle.specs.Check.{Accepted}
use Rattle.verdict.specs.Races.{races_of}
use Rattle.listing.specs.Listing.{races_in, totals_of, over}
use Rattle.pages.specs.declared.fill.Page.{Page}
use Rattle.pages.specs.Listings.{listing_text, lines_of, lines_in, page_of, Filled, page_from}
use Rattle.pages.proofs.Paging.{page-more, page-none, page-over, back-append, over-length}
use Rattle.pages.proofs.Lengths.{line-within}
use Rattle.pages.proofs.Counts.{counts-small}

-- a page takes no more than its room
pub page-room : (lines : List (List ℕ)) (room : ℕ) → length (back_to_back (page_of room lines)) ≤ room
page-room [] room = rw (page-over room) (omega arith)
page-room (line ∷ lines) room = go (page-room lines (room - length line)) (leb (length line) room) refl
  where
    go : length (back_to_back (page_of (room - length line) lines)) ≤ room - length line → (t : Bool) → leb (length line) room ≡ t
        → length (back_to_back (page_of room (line ∷ lines))) ≤ room
    go rest true e =
        rw (page-more room line lines e)
        (omega (arith, leb-true (length line) room e, length-append line (back_to_back (page_of (room - length line) lines))))
    go rest false e = rw (page-none room line lines e) (omega arith)

-- what is handed back lies in the buffer
pub filled-fits : (lines : List (List ℕ)) (from : ℕ) (s t : List ℕ) (r : Page) → page_from lines from s ≡ record { page = r; buffer = t } → r.size ≤ length t
unfolding page_from
filled-fits lines from s t r e =
    let b = back_to_back (page_of (length s) (drop from lines)) in
    let room : length b ≤ length s = page-room (drop from lines) (length s) in
    let size : length b ≡ r.size = ap (λ (f : Filled). f.page.size) e in
    let long : length (over b s) ≡ length t = ap (λ (f : Filled). length f.buffer) e in
    omega (arith, room, size, long, over-length b s room)

-- a page is the first lines, and the others follow
pub page-first : (lines : List (List ℕ)) (room : ℕ) → lines ≡ page_of room lines ++ drop (length (page_of room lines)) lines
page-first [] room = rw (page-over room)
page-first (line ∷ lines) room = go (page-first lines (room - length line)) (leb (length line) room) refl
  where
    go : lines ≡ page_of (room - length line) lines ++ drop (length (page_of (room - length line) lines)) lines → (t : Bool) → leb (length line) room ≡ t
        → line ∷ lines ≡ page_of room (line ∷ lines) ++ drop (length (page_of room (line ∷ lines))) (line ∷ lines)
    go rest true e = rw (page-more room line lines e) (ap (λ (l : List (List ℕ)). line ∷ l) rest)
    go rest false e = rw (page-none room line lines e)

-- every line fits into so many bytes
abbrev pub AllFit : ℕ → List (List ℕ) → Type 0
AllFit room lines = (i : ℕ) → i < length lines → length (get_or lines i []) ≤ room

-- then no page is empty while lines are left
pub page-some : (room : ℕ) (lines : List (List ℕ)) (from : ℕ) → AllFit room lines → from < length lines → 1 ≤ length (page_of room (drop from lines))
page-some room lines from fit h =
    let line = get_or lines from [] in
    rw (drop-cons lines from [] h, page-more room line (drop (suc from) lines) (le-leb (length line) room (fit from h))) (omega arith)

-- what so many pages hold, each filled from where the one before ended
unfoldable pub pages_from : ℕ → ℕ → List (List ℕ) → ℕ → List ℕ
pages_from zero room lines from = []
pages_from (suc turns) room lines from =
    let page = page_of room (drop from lines) in
    back_to_back page ++ pages_from turns room lines (from + length page)

pub pages-whole : (turns room : ℕ) (lines : List (List ℕ)) (from : ℕ) → AllFit room lines → length lines ≤ from + turns
    → pages_from turns room lines from ≡ back_to_back (drop from lines)
unfolding pages_from
pages-whole zero room lines from fit h = sym (ap back_to_back (drop_of_length-le lines {i = from} (omega arith)))
pages-whole (suc turns) room lines from fit h = go (pages-whole turns room lines (from + length (page_of room (drop from lines))) fit) (dec_lt from (length lines))
  where
    page : List (List ℕ)
    page = page_of room (drop from lines)

    cut : drop from lines ≡ page ++ drop (from + length page) lines
    cut = page-first (drop from lines) room ∙ ap (λ (l : List (List ℕ)). page ++ l) (drop-drop (length page) from lines)

    enough : Dec (from < length lines) → length lines ≤ from + length page + turns
    enough (yes l) = omega (arith, page-some room lines from fit l)
    enough (no l) = omega arith

    go : (length lines ≤ from + length page + turns → pages_from turns room lines (from + length page) ≡ back_to_back (drop (from + length page) lines)) → Dec (from < length lines)
        → back_to_back page ++ pages_from turns room lines (from + length page) ≡ back_to_back (drop from lines)
    go more d =
        ap (λ (l : List ℕ). back_to_back page ++ l) (more (enough d))
        ∙ sym (ap back_to_back cut ∙ back-append page (drop (from + length page) lines))

-- the pages of the program: with buffers of 96 bytes or more, so many turns as there are lines write the listing of the bundle
pub whole-text : (s names numbers : List ℕ) (room turns : ℕ) → Accepted s
    → races_in (totals_of (chunks_of s)) names numbers ≡ races_of (chunks_of s) → 96 ≤ room
    → length (lines_in (totals_of (chunks_of s)) names numbers) ≤ turns
    → pages_from turns room (lines_in (totals_of (chunks_of s)) names numbers) 0 ≡ listing_text s
unfolding lines_in listing_text
whole-text s names numbers room turns a races h enough =
    let t = totals_of (chunks_of s) in
    pages-whole turns room (lines_in t names numbers) 0 (λ i l. omega (arith, line-within t names numbers (counts-small s a) i l)) (omega (arith, enough))
    ∙ ap (λ (rs : List _). back_to_back (lines_of t rs)) races
    ∙ rw (a, listing_text)
