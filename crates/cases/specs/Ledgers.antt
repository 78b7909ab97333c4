-- The ledger of demand 3, computed: what it holds at instants of document 01's listing, of a list with an absent code, a replace and a refused call, and
-- of lists with a dropped lookup. The ledger in C holds the same at these instants of the listing and of one of these (tests/programs/listing-ledger.c).
use Rattle.std.specs.Prelude.{ℕ, ◌≡◌, refl, Bool, true, false, List, [], ◌∷◌, map, take}
use Rattle.model.specs.Lists.{drops, same}
use Rattle.model.specs.Rules.{add, replace, delete, begin, end, start, step}
use Rattle.model.specs.Ledger.{Section, Entry, Search, Out, Ledger, fed, fed_call, Event, ledger_from, ledger, search_in}
use Rattle.scripts.specs.Scripts.{Line, op, set_up1123, listing, five_words, events_of}

-- what the ledger holds at an instant
pub data Book : Type 0 where
  book : (instant : ℕ) (entries : List Entry) (sections : List Section) (searches : List Search) (outs : List Out) → Book

-- a list of calls, the set-up first, and the ledger at some of its instants
pub data Account : Type 0 where
  account : (lines : List Line) (books : List Book) → Account

abbrev pub owed_at : Book → Ledger
owed_at (book k es ss qs os) = record { entries = es; sections = ss; searches = qs; outs = os }

unfoldable pub owed : Account → List Ledger
owed (account ls bs) = map owed_at bs

-- the ledger fed with the first events, up to that instant
unfoldable pub ledger_at : List Event → ℕ → Ledger
unfolding drops fed fed_call ledger_from
ledger_at es k = ledger (take k es)

unfoldable pub held_at : List Event → Book → Ledger
unfolding ledger_at
held_at es (book k ns ss qs os) = ledger_at es k

-- the events are computed once for all instants
unfoldable pub held : Account → List Ledger
unfolding events_of held_at
held (account ls bs) = map (held_at (events_of ls)) bs

-- ---- the listing

abbrev pub entry : Entry
entry = record { code = 17; slot = 0; deposit = 25; material = 1 }

abbrev pub reader : Section
reader = record { lane = 1; opened = 2 }

abbrev pub search : Search
search = record { lane = 1; code = 17; started = 3 }

-- the removed slot, with the section open at its removal
abbrev pub removed : Out
removed = record { slot = 0; sections = reader ∷ [] }

abbrev pub listed : List Book
listed =
    book 0 [] [] [] []
    ∷ book 1 (entry ∷ []) [] [] []
    ∷ book 2 (entry ∷ []) (reader ∷ []) [] []
    ∷ book 3 (entry ∷ []) (reader ∷ []) (search ∷ []) []
    ∷ book 4 [] (reader ∷ []) (search ∷ []) (removed ∷ [])
    ∷ book 5 [] (reader ∷ []) [] (removed ∷ [])
    ∷ book 10 [] (reader ∷ []) [] (removed ∷ [])
    ∷ book 11 [] [] [] (removed ∷ [])
    ∷ book 15 [] [] [] (removed ∷ [])
    ∷ book 16 [] [] [] []
    ∷ book 17 [] [] [] []
    ∷ []

-- ---- absent is an answer too; a replace makes its entry in place of the old one; a refused call changes nothing

abbrev pub edges : List Line
edges =
    set_up1123
    ∷ op (add 0 17 25 1) 0 0 0 0 0
    ∷ op (begin 0) 0 0 0 0 0
    ∷ op (start 0 24) 0 0 0 0 0
    ∷ op (step 0) 0 2 0 0 0
    ∷ op (begin 1) 0 0 0 0 0
    ∷ op (replace 1 17 30 2) 0 1 0 0 0
    ∷ op (end 0) 0 0 0 0 0
    ∷ op (delete 0 24) 13 0 0 0 0
    ∷ []

abbrev pub first : Section
first = record { lane = 0; opened = 2 }

abbrev pub second : Section
second = record { lane = 1; opened = 5 }

abbrev pub unanswered : Search
unanswered = record { lane = 0; code = 24; started = 3 }

abbrev pub new : Entry
new = record { code = 17; slot = 1; deposit = 30; material = 2 }

-- with the sections of both lanes
abbrev pub replaced : Out
replaced = record { slot = 0; sections = second ∷ first ∷ [] }

abbrev pub edged : List Book
edged =
    book 3 (entry ∷ []) (first ∷ []) (unanswered ∷ []) []
    ∷ book 4 (entry ∷ []) (first ∷ []) [] []
    ∷ book 6 (new ∷ []) (second ∷ first ∷ []) [] (replaced ∷ [])
    ∷ book 7 (new ∷ []) (second ∷ []) [] (replaced ∷ [])
    ∷ book 8 (new ∷ []) (second ∷ []) [] (replaced ∷ [])
    ∷ []

-- ---- an end strikes its lane's lookup, and the lane's next one is noted anew

abbrev pub taken_back : List Line
taken_back =
    set_up1123
    ∷ op (add 0 17 25 1) 0 0 0 0 0
    ∷ op (begin 1) 0 0 0 0 0
    ∷ op (start 1 17) 0 0 0 0 0
    ∷ op (delete 0 17) 0 0 0 0 0
    ∷ op (end 1) 0 0 0 0 0
    ∷ op (step 1) 10 0 0 0 0
    ∷ op (begin 1) 0 0 0 0 0
    ∷ op (start 1 17) 0 0 0 0 0
    ∷ op (step 1) 0 2 0 0 0
    ∷ op (end 1) 0 0 0 0 0
    ∷ []

abbrev pub reader_again : Section
reader_again = record { lane = 1; opened = 7 }

abbrev pub search_again : Search
search_again = record { lane = 1; code = 17; started = 8 }

abbrev pub taken : List Book
taken =
    book 3 (entry ∷ []) (reader ∷ []) (search ∷ []) []
    ∷ book 4 [] (reader ∷ []) (search ∷ []) (removed ∷ [])
    ∷ book 5 [] [] [] (removed ∷ [])
    ∷ book 6 [] [] [] (removed ∷ [])
    ∷ book 7 [] (reader_again ∷ []) [] (removed ∷ [])
    ∷ book 8 [] (reader_again ∷ []) (search_again ∷ []) (removed ∷ [])
    ∷ book 9 [] (reader_again ∷ []) [] (removed ∷ [])
    ∷ book 10 [] [] [] (removed ∷ [])
    ∷ []

-- ---- the same for another code, beside the lookup of another lane, which stays

abbrev pub another_code : List Line
another_code =
    set_up1123
    ∷ op (add 0 17 25 1) 0 0 0 0 0
    ∷ op (begin 0) 0 0 0 0 0
    ∷ op (begin 1) 0 0 0 0 0
    ∷ op (start 0 17) 0 0 0 0 0
    ∷ op (start 1 17) 0 0 0 0 0
    ∷ op (end 0) 0 0 0 0 0
    ∷ op (begin 0) 0 0 0 0 0
    ∷ op (start 0 24) 0 0 0 0 0
    ∷ op (step 0) 0 2 0 0 0
    ∷ []

abbrev pub stays : Section
stays = record { lane = 1; opened = 3 }

abbrev pub begun : Section
begun = record { lane = 0; opened = 7 }

abbrev pub dropped : Search
dropped = record { lane = 0; code = 17; started = 4 }

abbrev pub runs_on : Search
runs_on = record { lane = 1; code = 17; started = 5 }

abbrev pub another : Search
another = record { lane = 0; code = 24; started = 8 }

abbrev pub anothered : List Book
anothered =
    book 5 (entry ∷ []) (stays ∷ first ∷ []) (runs_on ∷ dropped ∷ []) []
    ∷ book 6 (entry ∷ []) (stays ∷ []) (runs_on ∷ []) []
    ∷ book 8 (entry ∷ []) (begun ∷ stays ∷ []) (another ∷ runs_on ∷ []) []
    ∷ book 9 (entry ∷ []) (begun ∷ stays ∷ []) (runs_on ∷ []) []
    ∷ []

abbrev pub accounts : List Account
accounts = account listing listed ∷ account edges edged ∷ account taken_back taken ∷ account another_code anothered ∷ []

-- the ledger holds each
pub ledgers-hold : map held accounts ≡ map owed accounts
unfolding held owed
ledgers-hold = refl

-- ---- a ledger that kept the dropped lookup would owe what is false

-- the whole search for a code at an instant of `another_code`, and whether it is what the lane was answered for code 24
pub data Sought : Type 0 where
  sought : (code instant : ℕ) (is_answer : Bool) → Sought

unfoldable pub expected_of : Sought → Bool
expected_of (sought c k b) = b

unfoldable pub answers_it : List Event → Sought → Bool
unfolding ledger_at search_in
answers_it es (sought c k b) = same (five_words (search_in c (ledger_at es k).entries)) (0 ∷ 2 ∷ 0 ∷ 0 ∷ 0 ∷ [])

-- of the dropped lookup, from its start to the answer, none is; of the lookup that was answered its start's is
abbrev pub soughts : List Sought
soughts = sought 17 4 false ∷ sought 17 5 false ∷ sought 17 6 false ∷ sought 17 7 false ∷ sought 17 8 false ∷ sought 24 8 true ∷ []

pub dropped-differs : map (answers_it (events_of another_code)) soughts ≡ map expected_of soughts
unfolding events_of answers_it expected_of
dropped-differs = refl
