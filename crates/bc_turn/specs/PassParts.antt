-- What contracts see of passes and of values behind turns.
use Rattle.std.specs.Prelude.{◌≡◌, ◌⊎◌, ℕ, ◌+◌, ◌<◌, ◌≤◌, ◌^◌, ◌==◌, Bool, true, false, List, [], ◌∷◌, ◌++◌, length, map, slice_set, Option, Some, IfSome}
use mathlib.Core.Option as maybe
use lib.ListN.{get_elem?, take, drop}
use Rattle.atomic_table.specs.Seated.{TableId}
use Rattle.atomic_table.specs.declared.shared.Seat.{Seat}
use Rattle.bc_base.specs.Lists.{Each, EachFrom, At, AllAt, ChangesAt}
use Rattle.bc_base.specs.Story.{own, StartsWith}
use Rattle.bc_turn.specs.declared.view.Account.{Account}
use Rattle.bc_turn.specs.declared.view.View.{View}
use Rattle.bc_turn.specs.Turning.{one_if, account, mine, AtRest, Holding}

-- what a pass knows of one cell: the front of its story that was seen, how often its own fetch
-- found the turn taken, and whether it holds the value
pub record Part (E B : Type 0) : Type 0 where
  pub cell : TableId
  pub caller : ℕ
  pub base : Option B
  pub seen : List E
  pub missed : ℕ
  pub holds : Bool

-- a pass: its number, and what it knows of each cell
pub record Pass (E B : Type 0) : Type 0 where
  pub caller : ℕ
  pub parts : List (Part E B)

-- a cell, with the base of its value at opening
pub record CellData (B : Type 0) : Type 0 where
  pub id : TableId
  pub base : B

-- the cells, and how many callers they have
pub record TurnsData (B : Type 0) : Type 0 where
  pub callers : ℕ
  pub cells : List (CellData B)

-- what tells a cell from others: its table, and its base
abbrev pub cell_key : {B : Type 0} → CellData B → TableId × Option B
cell_key c = (c.id, Some c.base)

module _ {E B : Type 0} where
  -- a part of these
  abbrev pub part : TableId → ℕ → Option B → List E → ℕ → Bool → Part E B
  part c n b xs m h = record { cell = c; caller = n; base = b; seen = xs; missed = m; holds = h }

  -- the cell that the part is about
  abbrev pub part_key : Part E B → TableId × Option B
  part_key q = (q.cell, q.base)

  -- the pass is one of these turns
  abbrev pub IsOf : TurnsData B → Pass E B → Type 0
  IsOf t p = (p.caller < t.callers) × (map part_key p.parts ≡ map cell_key t.cells)
      × Each (λ q. q.caller ≡ p.caller) p.parts

  -- one part of the pass changed, in such a way
  abbrev pub Changes : Pass E B → Pass E B → ℕ → (Part E B → Part E B → Type 0) → Type 0
  Changes p q k R = (q.caller ≡ p.caller) × ChangesAt p.parts q.parts k R

  -- what a new pass knows of a cell, and of all cells
  abbrev pub new_part : ℕ → CellData B → Part E B
  new_part n c = part c.id n (Some c.base) [] 0 false

  -- a new pass of these cells
  abbrev pub new_pass : List (CellData B) → ℕ → Pass E B
  new_pass cells n = record { caller = n; parts = map (new_part n) cells }

  -- what a part says, as an account
  abbrev pub account_of : Part E B → Account E
  account_of q = account q.caller q.seen q.missed q.holds

  -- the value was got: all of its story is seen now
  abbrev pub with_turn : Part E B → List E → ℕ → Part E B
  with_turn q xs m = part q.cell q.caller q.base xs m true

  -- the value was given back with this story
  abbrev pub without_turn : Part E B → List E → Part E B
  without_turn q xs = part q.cell q.caller q.base xs q.missed false

  -- the turn was found with another
  abbrev pub with_miss : Part E B → Part E B
  with_miss q = part q.cell q.caller q.base q.seen (q.missed + 1) q.holds

  -- the part with another seen front
  abbrev pub with_seen : Part E B → List E → Part E B
  with_seen q xs = part q.cell q.caller q.base xs q.missed q.holds

  -- the pass with the first k cells alone
  abbrev pub cut_to : ℕ → Pass E B → Pass E B
  cut_to k p = record { caller = p.caller; parts = take k p.parts }

  -- the pass with one part more
  abbrev pub with_part : Pass E B → Part E B → Pass E B
  with_part p q = record { caller = p.caller; parts = p.parts ++ q ∷ [] }

  -- the pass with one cell more, of which its caller has seen nothing
  abbrev pub with_cell : CellData B → Pass E B → Pass E B
  with_cell c p = with_part p (new_part p.caller c)

  -- what its caller knows of the cells from the k-th on
  abbrev pub accounts_from : ℕ → Pass E B → List (Account E)
  accounts_from k p = map account_of (drop k p.parts)

  -- 1 where the pass is this caller's
  abbrev pub is_caller : ℕ → Pass E B → ℕ
  is_caller c p = one_if (p.caller == c)

-- what a seat for one caller knows
abbrev pub seat_part : {V E B : Type 0} → Seat (Option V) (View E B) → Part E B
seat_part s = part s.table_id (mine s.me.0).number s.me.0.base (mine s.me.0).seen (mine s.me.0).missed (mine s.me.0).has

-- the seat is a caller's, at rest or with the value. The counts are those of its own entries, and
-- of all entries of the value
abbrev pub IsPost : {V E B : Type 0} → (E → ℕ) → Seat (Option V) (View E B) → ℕ → ℕ → Type 0
IsPost by s made held = (AtRest s.me ⊎ (Holding s.me × (held ≡ length (mine s.me.0).seen)))
    × (made ≡ length (own by (mine s.me.0).number (mine s.me.0).seen))

module _ {V E B : Type 0} (entries : V → List E) (kept : B → V → Type 0) (by : E → ℕ) where
  -- the value begins with all that was seen, keeps to the base of opening, and has of this caller
  -- what was seen of it alone
  abbrev pub Continues : Part E B → V → Type 0
  Continues q v = StartsWith (entries v) q.seen × (own by q.caller (entries v) ≡ own by q.caller q.seen)
      × IfSome q.base (λ b. kept b v) × (length (entries v) < 2 ^ 62)

  -- the value was taken
  abbrev pub Takes : Part E B → V → Part E B → Type 0
  Takes q v q' = Continues q v × (q' ≡ with_turn q (entries v) q.missed)

  -- the value was taken, after the turn was found with others some times
  abbrev pub TakesLater : Part E B → V → Part E B → Type 0
  TakesLater q v q' = Continues q v × (q.missed ≤ q'.missed) × (q' ≡ with_turn q (entries v) q'.missed)

  -- the value is the taken one followed by entries of this caller
  abbrev pub GoesOn : Part E B → V → Type 0
  GoesOn q v = ((new : List E) × (entries v ≡ q.seen ++ new) × Each (λ x. by x ≡ q.caller) new)
      × IfSome q.base (λ b. kept b v) × (length (entries v) < 2 ^ 62)

  -- a caller had the turn in between: it found v, and left v'
  abbrev pub Visits : Part E B → V → V → Part E B → Type 0
  Visits q v v' q' = Continues q v × (q.missed ≤ q'.missed)
      × (q' ≡ part q.cell q.caller q.base (entries v') q'.missed false)

  -- the story was seen as long as the count says
  abbrev pub Counts : Part E B → Part E B → ℕ → Type 0
  Counts q q' n = (q' ≡ with_seen q q'.seen) × StartsWith q'.seen q.seen
      × (own by q.caller q'.seen ≡ own by q.caller q.seen) × (length q'.seen ≡ n)

  -- what a pass has seen of a cell is a prefix of the story at the end, which has of its caller
  -- what it made alone
  abbrev pub Ends : ℕ → V → Pass E B → Type 0
  Ends k v p = AllAt p.parts k (λ q. StartsWith (entries v) q.seen
      × (own by p.caller (entries v) ≡ own by p.caller q.seen))

  -- the value of a cell at the end: it has the base of opening, what each pass made, and nothing of
  -- others
  abbrev pub IsClosed : TurnsData B → List (Pass E B) → ℕ → V → Type 0
  IsClosed t passes k v = AllAt t.cells k (λ c. kept c.base v) × Each (Ends k v) passes
      × ((c : ℕ) → t.callers ≤ c → own by c (entries v) ≡ [])
