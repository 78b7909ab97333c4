-- How the current queues of lanes stand to the current generation and the largest requested (document 01, "The memory", last sentences), and what of
-- it holds in the midst of a clock or an off.
use Prim.Native.Nat.{ℕ, ◌<◌}
use mathlib.Core.Path.{◌≡◌, refl, ◌∙◌}
use mathlib.Core.Logic.{◌⊎◌, inl}
use mathlib.Core.Bool.{true, false}
use mathlib.Core.List.{List}
use Rattle.model.specs.Word.{word_limit, up, later}
use Rattle.model.specs.Lists.{any, is_empty}
use Rattle.model.specs.State.{Queues, Lane, Engine}
use Rattle.model.specs.Engine.{with_global, with_lanes, lane_at, runs, settled}
use Rattle.model.specs.Rules.{is_online}
use Rattle.laws.specs.Generations.{later-self, later-up, up-later}
use Rattle.laws.specs.Tests.{clash}

-- ---- what legality asks

-- how the current queue of an owner stands to the current generation c and the largest m; O: what holds of one that is older
pub data Age (O : Type 0) (c m : ℕ) (q : Queues) : Type 0 where
  none : is_empty q.current ≡ true → q.generation ≡ 0 → Age O c m q
  old : is_empty q.current ≡ false → O → Age O c m q
  now : is_empty q.current ≡ false → q.generation ≡ c → (m ≡ c) ⊎ (m ≡ up c) → Age O c m q
  soon : is_empty q.current ≡ false → q.generation ≡ up c → m ≡ up c → Age O c m q

-- one before the current, and awaited while a period runs
pub record Last (e : Engine) (l : Lane) : Type 0 where
  pub word : l.queues.generation < word_limit
  pub before : up l.queues.generation ≡ e.current
  pub waits : runs e ≡ true → l.pending ≡ true

-- a lane's, as legality asks
abbrev pub Strict : Engine → Lane → Type 0
Strict e l = Age (Last e l) e.current e.largest l.queues

-- an owner's whose generation may be over, by any number
abbrev pub Loose : Engine → Queues → Type 0
Loose e q = Age (later e.current q.generation ≡ true) e.current e.largest q

-- the global one's, as legality asks
abbrev pub Clean : Engine → Queues → Type 0
Clean e q = Age ⊥ e.current e.largest q

-- with no period running, the largest requested is the current less 1; otherwise it is the current or one more
pub data Level (e : Engine) : Type 0 where
  rests : runs e ≡ false → e.largest < word_limit → up e.largest ≡ e.current → Level e
  goes : runs e ≡ true → (e.largest ≡ e.current) ⊎ (e.largest ≡ up e.current) → Level e

-- ---- in the midst of a clock or an off

-- an off lane waits for no generation
abbrev pub OffEmpty : Lane → Type 0
OffEmpty l = l.online ≡ false → is_empty l.queues.current ≡ true

-- some lane is on, and off lanes have no queues; where X i holds lane i may be loose, and where Y holds the global queues may be
pub record Tidy (L : Engine → Type 0) (X : ℕ → Type 0) (Y : Type 0) (e : Engine) : Type 0 where
  pub word : e.current < word_limit
  pub level : L e
  pub some : any is_online e.lanes ≡ true
  pub off : (i : ℕ) → OffEmpty (lane_at e i)
  pub lanes : (i : ℕ) → Strict e (lane_at e i) ⊎ (X i × Loose e (lane_at e i).queues)
  pub global : Clean e e.global ⊎ (Y × Loose e e.global)

abbrev pub Disciplined : Engine → Type 0
Disciplined = Tidy Level (λ (j : ℕ). ⊥) ⊥

abbrev pub LooseAt : ℕ → Engine → Type 0
LooseAt i = Tidy Level (λ (j : ℕ). j ≡ i) (Unit {0})

abbrev pub LooseGlobal : Engine → Type 0
LooseGlobal = Tidy Level (λ (j : ℕ). ⊥) (Unit {0})

-- ---- by cases

module _ {O P : Type 0} {c m : ℕ} {q : Queues} where
  -- the largest becomes n
  pub age-map : (n : ℕ) → (is_empty q.current ≡ false → O → P) → ((m ≡ c) ⊎ (m ≡ up c) → (n ≡ c) ⊎ (n ≡ up c)) → (m ≡ up c → n ≡ up c) → Age O c m q
      → Age P c n q
  age-map n f g h (none a b) = none a b
  age-map n f g h (old a b) = old a (f a b)
  age-map n f g h (now a b d) = now a b (g d)
  age-map n f g h (soon a b d) = soon a b (h d)

  -- the next generation
  pub age-next : (is_empty q.current ≡ false → O → P) → (q.generation ≡ c → is_empty q.current ≡ false → P) → Age O c m q → Age P (up c) m q
  age-next f g (none a b) = none a b
  age-next f g (old a b) = old a (f a b)
  age-next f g (now a b d) = old a (g b a)
  age-next f g (soon a b d) = now a b (inl d)

-- a queue whose generation is over goes to done
pub age-settled : (c m : ℕ) (q : Queues) → c < word_limit → Age (later c q.generation ≡ true) c m q → Age ⊥ c m (settled c q)
unfolding is_empty settled
age-settled c m q h (none a b) = rw a (none a b)
age-settled c m q h (old a b) = rw (a, b) (none refl refl)
age-settled c m q h (now a b d) = let k : later c q.generation ≡ false = rw b (later-self h) in rw (a, k) (now a b d)
age-settled c m q h (soon a b d) = let k : later c q.generation ≡ false = rw b (later-up h) in rw (a, k) (soon a b d)

pub loosen : (e : Engine) (l : Lane) → Strict e l → Loose e l.queues
loosen e l a = age-map e.largest (λ f o. rw (← o.before) (up-later o.word)) (λ x. x) (λ x. x) a

pub level-moving : (e : Engine) → Level e → runs e ≡ true → (e.largest ≡ e.current) ⊎ (e.largest ≡ up e.current)
level-moving e (rests a b c) r = clash r a
level-moving e (goes a b) r = b

-- ---- other lanes and other global queues, with the same generations

module _ (e : Engine) (ls : List Lane) (g : Queues) where
  abbrev anew : Engine
  anew = with_global g (with_lanes ls e)

  -- while a period runs as before
  pub level-anew : runs anew ≡ runs e → Level e → Level anew
  level-anew r (rests a b d) = rests (r ∙ a) b d
  level-anew r (goes a b) = goes (r ∙ a) b

  -- while none runs that did not before
  pub strict-anew : (runs anew ≡ true → runs e ≡ true) → (l : Lane) → Strict e l → Strict anew l
  strict-anew r l = age-map e.largest (λ f o. record { word = o.word; before = o.before; waits = λ t. o.waits (r t) }) (λ x. x) (λ x. x)
