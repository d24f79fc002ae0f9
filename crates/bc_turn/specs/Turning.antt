-- The rule of one turn word, and what each step tells. The word is twice the number of entries of
-- the value last given, and 1 more while a caller has the turn.
use Rattle.std.specs.Prelude.{◌≡◌, ◌≢◌, ◌⊎◌, ℕ, zero, suc, ◌+◌, ◌*◌, ◌%◌, ◌<◌, ◌≤◌, ◌^◌, ◌==◌, Bool, true, false, if◌then◌else◌, List, [], ◌∷◌, ◌++◌, length, slice_index, ◌/◌, Option, Some, None, IfSome}
use mathlib.Core.Option as maybe
use Rattle.atomic_table.specs.Table.{State, Me, Step, rest}
use Rattle.atomic_table.specs.declared.shared.Seat.{Seat}
use Rattle.bc_base.specs.Lists.{Each}
use Rattle.bc_base.specs.Story.{own, StartsWith}
use Rattle.bc_turn.specs.declared.view.Account.{Account}
use Rattle.bc_turn.specs.declared.view.View.{View}

-- 1 where it is so, else 0
abbrev pub one_if : Bool → ℕ
one_if true = 1
one_if false = 0

-- the sum of a number of each element
abbrev pub sum_of : {A : Type 0} → (A → ℕ) → List A → ℕ
sum_of f [] = 0
sum_of f (x ∷ xs) = f x + sum_of f xs

-- the accounts of all seats
abbrev pub flat : {E B : Type 0} → List (View E B) → List (Account E)
flat [] = []
flat (v ∷ vs) = v.accounts ++ flat vs

-- 1 where c is below n
abbrev pub below : ℕ → ℕ → ℕ
below c zero = 0
below c (suc n) = one_if (n == c) + below c n

-- 1 where the caller has the turn
abbrev pub has : {E : Type 0} → Account E → ℕ
has a = one_if a.has

-- 1 where the account is this caller's
abbrev pub names : {E : Type 0} → ℕ → Account E → ℕ
names c a = one_if (a.number == c)

-- an account of these parts
abbrev pub account : {E : Type 0} → ℕ → List E → ℕ → Bool → Account E
account n xs m h = record { number = n; seen = xs; missed = m; has = h }

-- a view of these parts
abbrev pub view_of : {E B : Type 0} → Option B → List (Account E) → View E B
view_of b xs = record { base = b; accounts = xs }

-- accounts of callers that have seen nothing: those below n
abbrev pub newcomers : {E : Type 0} → ℕ → List (Account E)
newcomers zero = []
newcomers (suc n) = account n [] 0 false ∷ newcomers n

module _ {E : Type 0} (by : E → ℕ) where
  -- the account begins the story, has all of its caller's entries, and the whole story while it has
  -- the turn
  abbrev pub Fits : List E → Account E → Type 0
  Fits story a = StartsWith story a.seen × (own by a.number story ≡ own by a.number a.seen)
      × (a.has ≡ true → a.seen ≡ story)

-- a seat that stands for a caller knows the base
abbrev pub Based : {E B : Type 0} → B → View E B → Type 0
Based b v = (v.base ≡ Some b) ⊎ (v.accounts ≡ [])

module _ {V E B : Type 0} (entries : V → List E) (kept : B → V → Type 0) (by : E → ℕ) where
  -- the value at home is the one last given
  abbrev pub AtHome : B → List E → maybe.Option (Option V) → Type 0
  AtHome b story h = (v : V) × (h ≡ maybe.some (Some v)) × (entries v ≡ story) × kept b v

  -- the rule of the table: the word, the slot and all accounts agree with the story
  pub record Turning (b : B) (callers : ℕ) (s : State (Option V) (View E B)) : Type 0 where
    pub story : List E
    pub out : ℕ
    pub one_word : length s.words ≡ 1
    pub one_slot : length s.homes ≡ 1
    pub word : slice_index s.words 0 ≡ 2 * length story + out
    pub bit : out ≤ 1
    pub small : length story < 2 ^ 62
    pub home : out ≡ 0 → (h : maybe.Option (Option V)) × (s.homes ≡ h ∷ []) × AtHome b story h
    pub away : out ≡ 1 → s.homes ≡ maybe.none ∷ []
    pub bases : Each (Based b) s.views
    pub fits : Each (Fits by story) (flat s.views)
    pub holders : sum_of has (flat s.views) ≡ out
    pub named : (c : ℕ) → sum_of (names c) (flat s.views) ≡ below c callers
    pub strangers : (c : ℕ) → callers ≤ c → own by c story ≡ []

-- the account of a seat that stands for one caller
abbrev pub first_account : {E : Type 0} → List (Account E) → Account E
first_account [] = account 0 [] 0 false
first_account (a ∷ others) = a

-- the account of the caller that a seat stands for
abbrev pub mine : {E B : Type 0} → View E B → Account E
mine v = first_account v.accounts

-- the seat stands for one caller
abbrev pub Alone : {E B : Type 0} → View E B → Type 0
Alone v = v.accounts ≡ mine v ∷ []

-- one account is cut off, and the others stay
abbrev pub front_of : {E : Type 0} → List (Account E) → List (Account E)
front_of [] = []
front_of (a ∷ others) = a ∷ []

-- the accounts after the first
abbrev pub others_of : {E : Type 0} → List (Account E) → List (Account E)
others_of [] = []
others_of (a ∷ others) = others

-- the view of the seat that is cut off
abbrev pub cut_off : {E B : Type 0} → View E B → View E B
cut_off v = view_of v.base (front_of v.accounts)

-- the view of the seat that it is cut off from
abbrev pub left_over : {E B : Type 0} → View E B → View E B
left_over v = view_of v.base (others_of v.accounts)

-- the view of a seat that takes in another's callers
abbrev pub joined_view : {E B : Type 0} → View E B → View E B → View E B
joined_view v w = view_of v.base (v.accounts ++ w.accounts)

module _ {V E B : Type 0} (entries : V → List E) (kept : B → V → Type 0) (by : E → ℕ) where
  -- what a seat knows and carries
  abbrev S : Type 0
  S = Me (Option V) (View E B)

  -- the value begins with what the caller had seen, and has its own entries and the base
  abbrev pub Follows : View E B → V → Type 0
  Follows v x = StartsWith (entries x) (mine v).seen
      × (own by (mine v).number (entries x) ≡ own by (mine v).number (mine v).seen) × IfSome v.base (λ b. kept b x)
      × (length (entries x) < 2 ^ 62)

  -- the turn was got: the value is out with the seat
  abbrev pub Got : S → S → Type 0
  Got m m' = (x : V) × (m'.1 ≡ (0, Some x) ∷ m.1)
      × (m'.0 ≡ view_of m.0.base (account (mine m.0).number (entries x) (mine m.0).missed true ∷ [])) × Follows m.0 x

  -- the turn was another's
  abbrev pub Missed : S → S → Type 0
  Missed m m' = (m'.1 ≡ m.1) × (m'.0 ≡ view_of m.0.base
      (account (mine m.0).number (mine m.0).seen ((mine m.0).missed + 1) (mine m.0).has ∷ []))

  -- what the fetch tells its caller
  abbrev pub tried : Step (Option V) → S → ℕ → S → Type 0
  tried st m r m' = (r % 2 ≡ 0 → Got m m') × (r % 2 ≢ 0 → Missed m m')

  -- what the store tells its caller
  abbrev pub gave : Step (Option V) → S → ℕ → S → Type 0
  gave st m r m' = (m'.1 ≡ rest m.1) × ((v : V) (xs : List (ℕ × Option V)) → m.1 ≡ (0, Some v) ∷ xs
      → m'.0 ≡ view_of m.0.base (account (mine m.0).number (entries v) (mine m.0).missed false ∷ []))

  -- the story was seen as long as the word says
  abbrev pub Counted : S → S → ℕ → Type 0
  Counted m m' n = (m'.1 ≡ m.1) × (m'.0.base ≡ m.0.base) × Alone m'.0 × ((mine m'.0).number ≡ (mine m.0).number)
      × ((mine m'.0).has ≡ (mine m.0).has) × ((mine m'.0).missed ≡ (mine m.0).missed)
      × StartsWith (mine m'.0).seen (mine m.0).seen
      × (own by (mine m.0).number (mine m'.0).seen ≡ own by (mine m.0).number (mine m.0).seen)
      × (length (mine m'.0).seen ≡ n)
      × ((mine m.0).has ≡ true → (mine m'.0).seen ≡ (mine m.0).seen)

  -- what the load tells its caller
  abbrev pub counted : Step (Option V) → S → ℕ → S → Type 0
  counted st m r m' = Counted m m' (r / 2)

-- what a clause says of a seat
module _ {V E B : Type 0} where
  -- the seat is one caller's, who doesn't have the turn
  abbrev pub AtRest : Me (Option V) (View E B) → Type 0
  AtRest m = Alone m.0 × ((mine m.0).has ≡ false) × (m.1 ≡ [])

  -- the seat is one caller's, who has the turn and has taken the value out
  abbrev pub Holding : Me (Option V) (View E B) → Type 0
  Holding m = Alone m.0 × ((mine m.0).has ≡ true) × (m.1 ≡ (0, None) ∷ [])

  -- the same seat of the same cell, for the same caller
  abbrev pub SameSeat : Seat (Option V) (View E B) → Seat (Option V) (View E B) → Type 0
  SameSeat p q = (q.table_id ≡ p.table_id) × (q.id ≡ p.id) × (q.me.0.base ≡ p.me.0.base)
      × ((mine q.me.0).number ≡ (mine p.me.0).number)

  -- nothing was got, and the turn was found with another k times
  abbrev pub Stayed : Me (Option V) (View E B) → Me (Option V) (View E B) → ℕ → Type 0
  Stayed m m' k = AtRest m' × ((mine m'.0).seen ≡ (mine m.0).seen) × ((mine m'.0).missed ≡ (mine m.0).missed + k)

-- the value was taken, and its story is what the seat has seen
abbrev pub ViewTook : {V E B : Type 0} → (V → List E) → (B → V → Type 0) → (E → ℕ) → Me (Option V) (View E B) → V
    → Me (Option V) (View E B) → Type 0
ViewTook entries kept by m v m' = Holding m' × Follows entries kept by m.0 v × ((mine m'.0).seen ≡ entries v)
    × ((mine m.0).missed ≤ (mine m'.0).missed)

-- the value goes on from what the seat has seen by entries of its caller, and its base is unchanged
abbrev pub ViewGoesOn : {V E B : Type 0} → (V → List E) → (B → V → Type 0) → (E → ℕ) → View E B → V → Type 0
ViewGoesOn {E = E} entries kept by w v = ((new : List E) × (entries v ≡ (mine w).seen ++ new)
    × Each (λ x. by x ≡ (mine w).number) new) × IfSome w.base (λ b. kept b v) × (length (entries v) < 2 ^ 62)
