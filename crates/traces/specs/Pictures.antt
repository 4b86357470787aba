-- The picture of a trace, as a text in SVG 1.1: its arrows, and glyphs.
use Rattle.std.specs.Prelude.{◌≡◌, ℕ, Bool, true, false, List, [], ◌∷◌, ◌++◌, flat_map, IsPermutation, codes, decimal}
use Rattle.std.specs.List.{concat}
use Rattle.traces.specs.declared.crossings.Lane.{Lane}
use Rattle.traces.specs.declared.crossings.Lane.TheVariants.{Server, Connection}
use Rattle.traces.specs.declared.arrows.Arrow.{Arrow}
use Rattle.traces.specs.declared.glyphs.Glyph.{Glyph}
use Rattle.traces.specs.Columns.{Columns, point}
use Rattle.traces.specs.Glyphs.{glyph_text, line_text}

-- The attributes of an arrow: the color of those to servers, and that of replies; its head; one in flight is dashed.
unfoldable pub style : Lane → Bool → List ℕ
style (Server j) true = codes "stroke=\"#1f5fa8\" marker-end=\"url(#arrow)\""
style (Server j) false = codes "stroke=\"#1f5fa8\" stroke-dasharray=\"6 4\" marker-end=\"url(#arrow)\""
style (Connection c) true = codes "stroke=\"#2e7d32\" marker-end=\"url(#arrow)\""
style (Connection c) false = codes "stroke=\"#2e7d32\" stroke-dasharray=\"6 4\" marker-end=\"url(#arrow)\""

-- an arrow, from where something was put to where it was taken
unfoldable pub arrow_text : Columns → Arrow → List ℕ
arrow_text columns a =
    line_text (point columns a.put.way.from a.put.row) (point columns a.put.way.to a.row) (style a.put.way.to a.came)

-- how a picture of this size begins: its form, the head of an arrow, and a white ground
unfoldable pub head_text : ℕ → ℕ → List ℕ
head_text width height =
    concat (codes "<?xml version=\"1.0\" encoding=\"UTF-8\"?>\n" ∷
    codes "<svg xmlns=\"http://www.w3.org/2000/svg\" version=\"1.1\" width=\"" ∷ decimal width ∷
    codes "\" height=\"" ∷ decimal height ∷ codes "\" viewBox=\"0 0 " ∷ decimal width ∷ codes " " ∷
    decimal height ∷ codes "\" font-family=\"monospace\" font-size=\"12\">\n" ∷
    codes "<defs><marker id=\"arrow\" markerWidth=\"9\" markerHeight=\"8\" refX=\"8\" refY=\"4\" orient=\"auto\">" ∷
    codes "<path d=\"M0,0 L9,4 L0,8 z\" fill=\"#444444\"/></marker></defs>\n" ∷
    codes "<rect width=\"100%\" height=\"100%\" fill=\"white\"/>\n" ∷ [])

-- a picture: glyphs, arrows over them, and further glyphs over these
unfoldable pub picture_text : Columns → ℕ → List Glyph → List Arrow → List Glyph → List ℕ
picture_text columns height under arrows over =
    head_text columns.width height ++ flat_map glyph_text under ++ flat_map (arrow_text columns) arrows
    ++ flat_map glyph_text over ++ codes "</svg>\n"

-- a text is a picture that has these arrows, in this order, and beside them only glyphs
abbrev pub HasArrows : List Arrow → List ℕ → Type 0
HasArrows arrows picture =
    (columns : Columns) × (height : ℕ) × (under : List Glyph) × (over : List Glyph)
    × (picture ≡ picture_text columns height under arrows over)

-- a text is a picture that has each of these arrows once, in some order, and no others
abbrev pub Draws : List Arrow → List ℕ → Type 0
Draws arrows picture = (drawn : List Arrow) × IsPermutation arrows drawn × HasArrows drawn picture
