-- The state that a legal memory stands for. Masks, ends of queues, and links of chained and queued slots are no part of it: they follow from it
-- (Memory.antt). The field's terms for document 01's are in docs/GLOSSARY.md.
use Rattle.std.specs.Prelude.{ℕ, ◌*◌, Bool, true, false, List}

-- Y yards of C cabinets each, M places a cabinet with a lane at each, and S slots. A cabinet is a quad of document 000, a lane one of its CPUs
pub record Sizes : Type 0 where
  pub yards : ℕ
  pub cabinets : ℕ
  pub places : ℕ
  pub slots : ℕ

-- the number of cabinets of all yards; cabinet c of yard y is number y × C + c of them
abbrev pub cabinet_count : Sizes → ℕ
cabinet_count z = z.yards * z.cabinets

-- the number of lanes; lane number = (yard × C + cabinet) × M + place
abbrev pub lane_count : Sizes → ℕ
lane_count z = cabinet_count z * z.places

-- a lane's lookup: the code that it looks for, and the slot at which it stands, or none
pub data Lookup : Type 0 where
  idle : Lookup
  running : (code position : ℕ) → Lookup

-- the quiescent counts as they were when the lane took its snapshot
pub data Snapshot : Type 0 where
  unheld : Snapshot
  held : (counts : List ℕ) → Snapshot

-- Retired slots on their way to reuse, of a lane or of all lanes that went off ("lines"; document 000's rclocknxtlist, rclockcurlist and
-- rclockintrlist, and rclockgen, which is 0 while current is empty)
pub record Queues : Type 0 where
  pub next : List ℕ
  pub current : List ℕ
  pub done : List ℕ
  pub generation : ℕ

-- `online`: the lane is on. `reading`: its read-side section is open. `quiescent`: its four pass counts, one a kind. `pending`: its mask bit, the
-- running grace period still waits for it
pub record Lane : Type 0 where
  pub online : Bool
  pub reading : Bool
  pub lookup : Lookup
  pub quiescent : List ℕ
  pub snapshot : Snapshot
  pub pending : Bool
  pub queues : Queues

-- `current` and `largest`: the current generation and the largest requested (rcc_curgen, rcc_maxgen). `global`: "the house's" queues
pub record Engine : Type 0 where
  pub current : ℕ
  pub largest : ℕ
  pub lanes : List Lane
  pub global : Queues

-- what a slot holds
pub record Product : Type 0 where
  pub code : ℕ
  pub deposit : ℕ
  pub material : ℕ

-- `chains`: the slots of each chain, from its head. `free`: the free queue. `products`: what each slot holds. `links`: the chain link that each
-- retired slot kept; none for every other slot
pub record Table : Type 0 where
  pub chains : List (List ℕ)
  pub free : List ℕ
  pub products : List Product
  pub links : List ℕ

pub record State : Type 0 where
  pub sizes : Sizes
  pub engine : Engine
  pub table : Table

unfoldable pub is_running : Lookup → Bool
is_running idle = false
is_running (running c p) = true

unfoldable pub is_held : Snapshot → Bool
is_held unheld = false
is_held (held c) = true
