-- Each way of a picture stands once among its ways.
use Rattle.std.proofs.Common.{◌≡◌, ℕ, zero, suc, ◌+◌, ◌<◌, Bool, false, ◌&&◌, nat_eq, List, [], ◌∷◌, ◌++◌, Some}
use Rattle.std.proofs.Common.{refl, ap, sym, ◌∙◌, arith, append_assoc, append-nil}
use Rattle.std.specs.Prelude.{map, flat_map, slice_get, if◌then◌else◌}
use Rattle.std.specs.List.{range_with_len}
use Rattle.std.proofs.lemmas.Bool.{and_right, eq-eqb, ne_eqb}
use Rattle.std.proofs.lemmas.Option.{same_Some}
use Rattle.schedules.specs.Settling.{first_numbers}
use Rattle.traces.specs.declared.crossings.Lane.{Lane}
use Rattle.traces.specs.declared.crossings.Lane.TheVariants.{Server, Connection}
use Rattle.traces.specs.declared.crossings.Way.{Way}
use Rattle.traces.specs.Crossings.{from_to, is_same_way}
use Rattle.traces.specs.Arrows.{IsWay, calls_from, link_way, links_from, links_of, replies_from, ways_of}

-- these things, as often as a way stands among some
abbrev pub hits : {X : Type 0} → Way → List X → List Way → List X
hits v xs [] = []
hits v xs (w ∷ ws) = (if is_same_way w v then xs else []) ++ hits v xs ws

hits_append : {X : Type 0} (v : Way) (xs : List X) (us ws : List Way)
    → hits v xs (us ++ ws) ≡ hits v xs us ++ hits v xs ws
hits_append v xs [] ws = refl
hits_append v xs (u ∷ us) ws =
    ap (λ rest. (if is_same_way u v then xs else []) ++ rest) (hits_append v xs us ws)
    ∙ sym (append_assoc (if is_same_way u v then xs else []) (hits v xs us) (hits v xs ws))

hits_three : {X : Type 0} (v : Way) (xs : List X) (ts us ws : List Way)
    → hits v xs (ts ++ us ++ ws) ≡ hits v xs ts ++ hits v xs us ++ hits v xs ws
hits_three v xs ts us ws =
    hits_append v xs (ts ++ us) ws ∙ ap (λ front. front ++ hits v xs ws) (hits_append v xs ts us)

first_alone : {X : Type 0} (x a b d : List X) → a ≡ x → b ≡ [] → d ≡ [] → a ++ b ++ d ≡ x
first_alone x a b d h i j = rw (h, i, j) (append-nil (x ++ []) ∙ append-nil x)

second_alone : {X : Type 0} (x a b d : List X) → a ≡ [] → b ≡ x → d ≡ [] → a ++ b ++ d ≡ x
second_alone x a b d h i j = rw (h, i, j) (append-nil x)

third_alone : {X : Type 0} (x a b d : List X) → a ≡ [] → b ≡ [] → d ≡ x → a ++ b ++ d ≡ x
third_alone x a b d h i j = rw (h, i, j) refl

-- the calls: none is from a server
calls_of_servers : {X : Type 0} (i : ℕ) (to : Lane) (xs : List X) (k : ℕ) (homes : List ℕ)
    → hits (from_to (Server i) to) xs (calls_from k homes) ≡ []
calls_of_servers i to xs k [] = refl
calls_of_servers i to xs k (home ∷ homes) = calls_of_servers i to xs (k + 1) homes

calls_later : {X : Type 0} (c h : ℕ) (xs : List X) (k : ℕ) (homes : List ℕ)
    → c < k
    → hits (from_to (Connection c) (Server h)) xs (calls_from k homes) ≡ []
calls_later c h xs k [] less = refl
calls_later c h xs k (home ∷ homes) less =
    ap (λ (t : Bool). (if t && nat_eq home h then xs else [])
    ++ hits (from_to (Connection c) (Server h)) xs (calls_from (k + 1) homes))
    (ne_eqb k c (λ same. omega (arith, same, less)))
    ∙ calls_later c h xs (k + 1) homes (omega (arith, less))

-- one is from each connection to its home
calls_hit : {X : Type 0} (k m c h : ℕ) (xs : List X) (homes : List ℕ)
    → k + m ≡ c
    → slice_get homes m ≡ Some h
    → hits (from_to (Connection c) (Server h)) xs (calls_from k homes) ≡ xs
calls_hit k zero c h xs [] sum found = absurd cc
calls_hit k (suc m) c h xs [] sum found = absurd cc
calls_hit k zero c h xs (home ∷ homes) sum found =
    ap (λ (t : Bool). (if t && nat_eq home h then xs else [])
    ++ hits (from_to (Connection c) (Server h)) xs (calls_from (k + 1) homes))
    (eq-eqb k c (omega (arith, sum)))
    ∙ ap (λ (t : Bool). (if t then xs else [])
    ++ hits (from_to (Connection c) (Server h)) xs (calls_from (k + 1) homes))
    (eq-eqb home h (same_Some home h found))
    ∙ ap (λ rest. xs ++ rest) (calls_later c h xs (k + 1) homes (omega (arith, sum)))
    ∙ append-nil xs
calls_hit k (suc m) c h xs (home ∷ homes) sum found =
    ap (λ (t : Bool). (if t && nat_eq home h then xs else [])
    ++ hits (from_to (Connection c) (Server h)) xs (calls_from (k + 1) homes))
    (ne_eqb k c (λ same. omega (arith, same, sum)))
    ∙ calls_hit (k + 1) m c h xs homes (omega (arith, sum)) found

-- the replies: none is from a connection, and none to a server
replies_of_connections : {X : Type 0} (c : ℕ) (to : Lane) (xs : List X) (k : ℕ) (homes : List ℕ)
    → hits (from_to (Connection c) to) xs (replies_from k homes) ≡ []
replies_of_connections c to xs k [] = refl
replies_of_connections c to xs k (home ∷ homes) = replies_of_connections c to xs (k + 1) homes

replies_to_servers : {X : Type 0} (i j : ℕ) (xs : List X) (k : ℕ) (homes : List ℕ)
    → hits (from_to (Server i) (Server j)) xs (replies_from k homes) ≡ []
replies_to_servers i j xs k [] = refl
replies_to_servers i j xs k (home ∷ homes) =
    ap (λ (t : Bool). (if t then xs else [])
    ++ hits (from_to (Server i) (Server j)) xs (replies_from (k + 1) homes))
    (and_right (nat_eq home i) false refl)
    ∙ replies_to_servers i j xs (k + 1) homes

replies_later : {X : Type 0} (c h : ℕ) (xs : List X) (k : ℕ) (homes : List ℕ)
    → c < k
    → hits (from_to (Server h) (Connection c)) xs (replies_from k homes) ≡ []
replies_later c h xs k [] less = refl
replies_later c h xs k (home ∷ homes) less =
    ap (λ (t : Bool). (if nat_eq home h && t then xs else [])
    ++ hits (from_to (Server h) (Connection c)) xs (replies_from (k + 1) homes))
    (ne_eqb k c (λ same. omega (arith, same, less)))
    ∙ ap (λ (t : Bool). (if t then xs else [])
    ++ hits (from_to (Server h) (Connection c)) xs (replies_from (k + 1) homes))
    (and_right (nat_eq home h) false refl)
    ∙ replies_later c h xs (k + 1) homes (omega (arith, less))

-- one is from its home to each connection
replies_hit : {X : Type 0} (k m c h : ℕ) (xs : List X) (homes : List ℕ)
    → k + m ≡ c
    → slice_get homes m ≡ Some h
    → hits (from_to (Server h) (Connection c)) xs (replies_from k homes) ≡ xs
replies_hit k zero c h xs [] sum found = absurd cc
replies_hit k (suc m) c h xs [] sum found = absurd cc
replies_hit k zero c h xs (home ∷ homes) sum found =
    ap (λ (t : Bool). (if t && nat_eq k c then xs else [])
    ++ hits (from_to (Server h) (Connection c)) xs (replies_from (k + 1) homes))
    (eq-eqb home h (same_Some home h found))
    ∙ ap (λ (t : Bool). (if t then xs else [])
    ++ hits (from_to (Server h) (Connection c)) xs (replies_from (k + 1) homes))
    (eq-eqb k c (omega (arith, sum)))
    ∙ ap (λ rest. xs ++ rest) (replies_later c h xs (k + 1) homes (omega (arith, sum)))
    ∙ append-nil xs
replies_hit k (suc m) c h xs (home ∷ homes) sum found =
    ap (λ (t : Bool). (if nat_eq home h && t then xs else [])
    ++ hits (from_to (Server h) (Connection c)) xs (replies_from (k + 1) homes))
    (ne_eqb k c (λ same. omega (arith, same, sum)))
    ∙ ap (λ (t : Bool). (if t then xs else [])
    ++ hits (from_to (Server h) (Connection c)) xs (replies_from (k + 1) homes))
    (and_right (nat_eq home h) false refl)
    ∙ replies_hit (k + 1) m c h xs homes (omega (arith, sum)) found

-- the links: none is from a connection, and none to one
links_of_connections : {X : Type 0} (c : ℕ) (to : Lane) (xs : List X) (k : ℕ) (ns : List ℕ)
    → hits (from_to (Connection c) to) xs (map (link_way k) ns) ≡ []
links_of_connections c to xs k [] = refl
links_of_connections c to xs k (n ∷ ns) = links_of_connections c to xs k ns

all_links_of_connections : {X : Type 0} (c : ℕ) (to : Lane) (xs : List X) (count : ℕ) (ns : List ℕ)
    → hits (from_to (Connection c) to) xs (flat_map (links_from count) ns) ≡ []
unfolding links_from
all_links_of_connections c to xs count [] = refl
all_links_of_connections c to xs count (n ∷ ns) =
    hits_append (from_to (Connection c) to) xs (links_from count n) (flat_map (links_from count) ns)
    ∙ ap (λ front. front ++ hits (from_to (Connection c) to) xs (flat_map (links_from count) ns))
    (links_of_connections c to xs n (first_numbers count))
    ∙ all_links_of_connections c to xs count ns

links_to_connections : {X : Type 0} (i c : ℕ) (xs : List X) (k : ℕ) (ns : List ℕ)
    → hits (from_to (Server i) (Connection c)) xs (map (link_way k) ns) ≡ []
links_to_connections i c xs k [] = refl
links_to_connections i c xs k (n ∷ ns) =
    ap (λ (t : Bool). (if t then xs else []) ++ hits (from_to (Server i) (Connection c)) xs (map (link_way k) ns))
    (and_right (nat_eq k i) false refl)
    ∙ links_to_connections i c xs k ns

all_links_to_connections : {X : Type 0} (i c : ℕ) (xs : List X) (count : ℕ) (ns : List ℕ)
    → hits (from_to (Server i) (Connection c)) xs (flat_map (links_from count) ns) ≡ []
unfolding links_from
all_links_to_connections i c xs count [] = refl
all_links_to_connections i c xs count (n ∷ ns) =
    hits_append (from_to (Server i) (Connection c)) xs (links_from count n) (flat_map (links_from count) ns)
    ∙ ap (λ front. front ++ hits (from_to (Server i) (Connection c)) xs (flat_map (links_from count) ns))
    (links_to_connections i c xs n (first_numbers count))
    ∙ all_links_to_connections i c xs count ns

-- the links from one server: one is to each
row_other : {X : Type 0} (i j : ℕ) (xs : List X) (k : ℕ) (ns : List ℕ)
    → nat_eq k i ≡ false
    → hits (from_to (Server i) (Server j)) xs (map (link_way k) ns) ≡ []
row_other i j xs k [] other = refl
row_other i j xs k (n ∷ ns) other =
    ap (λ (t : Bool). (if t && nat_eq n j then xs else [])
    ++ hits (from_to (Server i) (Server j)) xs (map (link_way k) ns)) other
    ∙ row_other i j xs k ns other

row_later : {X : Type 0} (i j : ℕ) (xs : List X) (k a n : ℕ)
    → j < a
    → hits (from_to (Server i) (Server j)) xs (map (link_way k) (range_with_len a n)) ≡ []
row_later i j xs k a zero less = refl
row_later i j xs k a (suc n) less =
    ap (λ (t : Bool). (if nat_eq k i && t then xs else [])
    ++ hits (from_to (Server i) (Server j)) xs (map (link_way k) (range_with_len (a + 1) n)))
    (ne_eqb a j (λ same. omega (arith, same, less)))
    ∙ ap (λ (t : Bool). (if t then xs else [])
    ++ hits (from_to (Server i) (Server j)) xs (map (link_way k) (range_with_len (a + 1) n)))
    (and_right (nat_eq k i) false refl)
    ∙ row_later i j xs k (a + 1) n (omega (arith, less))

row_hit : {X : Type 0} (i j : ℕ) (xs : List X) (a m n : ℕ)
    → a + m ≡ j
    → m < n
    → hits (from_to (Server i) (Server j)) xs (map (link_way i) (range_with_len a n)) ≡ xs
row_hit i j xs a m zero sum less = absurd (omega (arith, less))
row_hit i j xs a zero (suc n) sum less =
    ap (λ (t : Bool). (if t && nat_eq a j then xs else [])
    ++ hits (from_to (Server i) (Server j)) xs (map (link_way i) (range_with_len (a + 1) n)))
    (eq-eqb i i refl)
    ∙ ap (λ (t : Bool). (if t then xs else [])
    ++ hits (from_to (Server i) (Server j)) xs (map (link_way i) (range_with_len (a + 1) n)))
    (eq-eqb a j (omega (arith, sum)))
    ∙ ap (λ rest. xs ++ rest) (row_later i j xs i (a + 1) n (omega (arith, sum)))
    ∙ append-nil xs
row_hit i j xs a (suc m) (suc n) sum less =
    ap (λ (t : Bool). (if nat_eq i i && t then xs else [])
    ++ hits (from_to (Server i) (Server j)) xs (map (link_way i) (range_with_len (a + 1) n)))
    (ne_eqb a j (λ same. omega (arith, same, sum)))
    ∙ ap (λ (t : Bool). (if t then xs else [])
    ++ hits (from_to (Server i) (Server j)) xs (map (link_way i) (range_with_len (a + 1) n)))
    (and_right (nat_eq i i) false refl)
    ∙ row_hit i j xs (a + 1) m n (omega (arith, sum)) (omega (arith, less))

rows_later : {X : Type 0} (i j : ℕ) (xs : List X) (count a n : ℕ)
    → i < a
    → hits (from_to (Server i) (Server j)) xs (flat_map (links_from count) (range_with_len a n)) ≡ []
unfolding links_from
rows_later i j xs count a zero less = refl
rows_later i j xs count a (suc n) less =
    hits_append (from_to (Server i) (Server j)) xs (links_from count a)
    (flat_map (links_from count) (range_with_len (a + 1) n))
    ∙ ap (λ front. front
    ++ hits (from_to (Server i) (Server j)) xs (flat_map (links_from count) (range_with_len (a + 1) n)))
    (row_other i j xs a (first_numbers count) (ne_eqb a i (λ same. omega (arith, same, less))))
    ∙ rows_later i j xs count (a + 1) n (omega (arith, less))

-- the links from all servers: one is from each to each
rows_hit : {X : Type 0} (i j : ℕ) (xs : List X) (count a m n : ℕ)
    → a + m ≡ i
    → m < n
    → j < count
    → hits (from_to (Server i) (Server j)) xs (flat_map (links_from count) (range_with_len a n)) ≡ xs
unfolding links_from
rows_hit i j xs count a m zero sum less within = absurd (omega (arith, less))
rows_hit i j xs count a zero (suc n) sum less within =
    let same : a ≡ i = omega (arith, sum) in
    hits_append (from_to (Server i) (Server j)) xs (links_from count a)
    (flat_map (links_from count) (range_with_len (a + 1) n))
    ∙ ap (λ front. front
    ++ hits (from_to (Server i) (Server j)) xs (flat_map (links_from count) (range_with_len (a + 1) n)))
    (ap (λ k. hits (from_to (Server i) (Server j)) xs (map (link_way k) (first_numbers count))) same
    ∙ row_hit i j xs 0 j count (omega arith) within)
    ∙ ap (λ rest. xs ++ rest) (rows_later i j xs count (a + 1) n (omega (arith, sum)))
    ∙ append-nil xs
rows_hit i j xs count a (suc m) (suc n) sum less within =
    hits_append (from_to (Server i) (Server j)) xs (links_from count a)
    (flat_map (links_from count) (range_with_len (a + 1) n))
    ∙ ap (λ front. front
    ++ hits (from_to (Server i) (Server j)) xs (flat_map (links_from count) (range_with_len (a + 1) n)))
    (row_other i j xs a (first_numbers count) (ne_eqb a i (λ same. omega (arith, same, sum))))
    ∙ rows_hit i j xs count (a + 1) m n (omega (arith, sum)) (omega (arith, less)) within

-- each way between lanes of a picture stands once among its ways
pub ways_hit : {X : Type 0} (count : ℕ) (homes : List ℕ) (from to : Lane) (xs : List X)
    → IsWay count homes from to
    → hits (from_to from to) xs (ways_of count homes) ≡ xs
unfolding ways_of links_of
ways_hit count homes (Connection c) (Server h) xs is =
    hits_three (from_to (Connection c) (Server h)) xs (calls_from 0 homes) (links_of count) (replies_from 0 homes)
    ∙ first_alone xs _ _ _ (calls_hit 0 c c h xs homes (omega arith) is)
    (all_links_of_connections c (Server h) xs count (first_numbers count))
    (replies_of_connections c (Server h) xs 0 homes)
ways_hit count homes (Server i) (Server j) xs is =
    hits_three (from_to (Server i) (Server j)) xs (calls_from 0 homes) (links_of count) (replies_from 0 homes)
    ∙ second_alone xs _ _ _ (calls_of_servers i (Server j) xs 0 homes)
    (rows_hit i j xs count 0 i count (omega arith) is.0 is.1)
    (replies_to_servers i j xs 0 homes)
ways_hit count homes (Server h) (Connection c) xs is =
    hits_three (from_to (Server h) (Connection c)) xs (calls_from 0 homes) (links_of count) (replies_from 0 homes)
    ∙ third_alone xs _ _ _ (calls_of_servers h (Connection c) xs 0 homes)
    (all_links_to_connections h c xs count (first_numbers count))
    (replies_hit 0 c c h xs homes (omega arith) is)
ways_hit count homes (Connection c) (Connection d) xs is = absurd is
