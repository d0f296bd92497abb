-- The handles and views of each process: which part of the world they stand in.
use Rattle.std.specs.Prelude.{ℕ, zero, suc, ◌+◌, ◌++◌, ◌-◌, ◌<◌, ◌==◌, Bool, false, List, [], ◌∷◌, length, Option, Some, None, if◌then◌else◌}
use Rattle.lpc_base.specs.Births.{same_birth}
use Rattle.lpc_base.specs.Rows.{change, count, differ_by, each, first, has, without, without_first}
use Rattle.lpc_base.specs.declared.limits.TheConstants.{HANDLE_LIMIT, VIEW_LIMIT}
use Rattle.lpc_handles.specs.Handles as handles
use Rattle.lpc_handles.specs.declared.table.Row.{Row}
use Rattle.lpc_slots.specs.Table.{is_key}
use Rattle.lpc_slots.specs.declared.Key.{Key}
use Rattle.lpc_homes.specs.declared.object.Object.{Object}
use Rattle.lpc_homes.specs.declared.object.Object.TheVariants as object
use Rattle.lpc_homes.specs.declared.parts.Part.{Part}
use Rattle.lpc_views.specs.Views.{Views, is_owned_by, lies_at, shows}
use Rattle.lpc_views.specs.declared.view.View.{View}

-- the part of a process
abbrev pub is_part : ℕ → Part → Bool
is_part pid part = part.process == pid

-- the parts, of which the one at a place is changed
abbrev pub change_at : ℕ → (Part → Part) → List Part → List Part
change_at place f [] = []
change_at zero f (part ∷ parts) = f part ∷ parts
change_at (suc place) f (part ∷ parts) = part ∷ change_at place f parts

-- no process has two parts
abbrev pub are_single_parts : List Part → Bool
are_single_parts parts = differ_by (λ part. part.process) parts

-- the handles of an optional part, and its room
abbrev pub rows_in : Option Part → List (ℕ × Row Object)
rows_in None = []
rows_in (Some part) = part.handles.rows

abbrev pub spare_in : Option Part → ℕ
spare_in None = 0
spare_in (Some part) = part.handles.spare

-- the handles of a process, and its room
abbrev pub rows_at : List Part → ℕ → List (ℕ × Row Object)
rows_at parts pid = rows_in (first (is_part pid) parts)

abbrev pub spare_at : List Part → ℕ → ℕ
spare_at parts pid = spare_in (first (is_part pid) parts)

-- a part with one more handle, which takes one place of its room
abbrev pub handed : ℕ → Row Object → Part → Part
handed value row part = record part { handles = record { rows = handles.with_row part.handles.rows value row; spare = part.handles.spare - 1 } }

-- a part with so much room
abbrev pub roomed : ℕ → Part → Part
roomed spare part = record part { handles = record part.handles { spare = spare } }

-- a part without the handle of a value, whose room is spare then
abbrev pub closed : ℕ → Part → Part
closed value part = record part {
  handles = record {
    rows = without_first (handles.has_value value) part.handles.rows;
    spare = if has (handles.has_value value) part.handles.rows then part.handles.spare + 1 else part.handles.spare;
  };
}

-- the parts of all processes, with one more handle, with so much room, or without the handle of a value, in that of a
-- process
abbrev pub handing : ℕ → ℕ → Object → ℕ → List Part → List Part
handing pid value object access parts = change (is_part pid) (handed value (record { object = object; access = access })) parts

abbrev pub rooming : ℕ → ℕ → List Part → List Part
rooming pid spare parts = change (is_part pid) (roomed spare) parts

abbrev pub closing : ℕ → ℕ → List Part → List Part
closing pid value parts = change (is_part pid) (closed value) parts

-- a process has fewer handles than it may have
abbrev pub HasFew : List Part → ℕ → Type 0
HasFew parts pid = length (rows_at parts pid) < HANDLE_LIMIT

-- the key of the port that an object is, none of another kind
abbrev pub port_of : Object → Option Key
port_of (object.Port key) = Some key
port_of (object.Process birth) = None
port_of (object.Thread birth) = None
port_of (object.Section key) = None
port_of (object.Token key) = None

-- an object is this one: a port, section or token of the same key, or a process or thread of the same birth
abbrev pub is_object : Object → Object → Bool
is_object (object.Port key) (object.Port other) = is_key other key
is_object (object.Process birth) (object.Process other) = same_birth other birth
is_object (object.Thread birth) (object.Thread other) = same_birth other birth
is_object (object.Section key) (object.Section other) = is_key other key
is_object (object.Token key) (object.Token other) = is_key other key
is_object one other = false

-- a handle names the object, and a handle of the part does
abbrev pub names_it : Object → ℕ × Row Object → Bool
names_it object row = is_object object row.1.object

abbrev pub has_name_of : Object → Part → Bool
has_name_of object part = has (names_it object) part.handles.rows

-- the handles of all processes
abbrev pub all_rows : List Part → List (ℕ × Row Object)
all_rows parts = each (λ part. part.handles.rows) parts

-- Views
-- the views of an optional part, and its room for more
abbrev pub views_in : Option Part → List (View Key)
views_in None = []
views_in (Some part) = part.views.views

abbrev pub view_room_in : Option Part → ℕ
view_room_in None = 0
view_room_in (Some part) = part.views.spare

-- the views of a process, and its room for more
abbrev pub views_at : List Part → ℕ → List (View Key)
views_at parts pid = views_in (first (is_part pid) parts)

abbrev pub view_room_at : List Part → ℕ → ℕ
view_room_at parts pid = view_room_in (first (is_part pid) parts)

-- a part with these views
abbrev pub viewing : Views Key → Part → Part
viewing views part = record part { views = views }

-- with one more view, which takes one place of its room; with so much room
abbrev pub mapped : View Key → Part → Part
mapped view part = viewing (record { views = part.views.views ++ view ∷ []; spare = part.views.spare - 1 }) part

abbrev pub view_roomed : ℕ → Part → Part
view_roomed spare part = viewing (record part.views { spare = spare }) part

-- a view goes with a port
abbrev pub goes_with : Key → View Key → Bool
goes_with port view = is_owned_by is_key port view

-- without the view at a base, without those that go with a port, and without any: their places are room then
abbrev pub unmapped : ℕ → Part → Part
unmapped base part = viewing (record { views = without (lies_at base) part.views.views; spare = part.views.spare + 1 }) part

abbrev pub dropped : Key → Part → Part
dropped port part = viewing (record {
  views = without (goes_with port) part.views.views;
  spare = part.views.spare + count (goes_with port) part.views.views;
}) part

abbrev pub emptied : Part → Part
emptied part = viewing (record { views = []; spare = part.views.spare + length part.views.views }) part

-- the parts of all processes, with one more view, with so much room for views, without the view at a base, without those
-- that go with a port, or without any view, in that of a process
abbrev pub mapping : ℕ → View Key → List Part → List Part
mapping pid view parts = change (is_part pid) (mapped view) parts

abbrev pub view_rooming : ℕ → ℕ → List Part → List Part
view_rooming pid spare parts = change (is_part pid) (view_roomed spare) parts

abbrev pub unmapping : ℕ → ℕ → List Part → List Part
unmapping pid base parts = change (is_part pid) (unmapped base) parts

abbrev pub dropping : ℕ → Key → List Part → List Part
dropping pid port parts = change (is_part pid) (dropped port) parts

abbrev pub emptying : ℕ → List Part → List Part
emptying pid parts = change (is_part pid) emptied parts

-- the views of all processes; a view of the part shows the section, and one goes with the port
abbrev pub all_views : List Part → List (View Key)
all_views parts = each (λ part. part.views.views) parts

abbrev pub has_view_of : Key → Part → Bool
has_view_of section part = has (shows section) part.views.views

abbrev pub has_view_with : Key → Part → Bool
has_view_with port part = has (goes_with port) part.views.views

-- a process has fewer views than it may have
abbrev pub HasFewViews : List Part → ℕ → Type 0
HasFewViews parts pid = length (views_at parts pid) < VIEW_LIMIT

-- The table
-- the parts in the order in which they were made, and how many more go in without memory
pub record PartTable : Type 0 where
  pub items : List Part
  pub room : ℕ

-- a part without handles and views
abbrev pub new_part : ℕ → Part
new_part pid = record { process = pid; handles = record { rows = []; spare = 0 }; views = record { views = []; spare = 0 } }
