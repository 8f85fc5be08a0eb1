-- What every law uses
pub mod Tests
-- The machine, over any code: a law for each step, the bound on instructions, the stack limit
pub mod Running
pub mod Instructions
pub mod StackLimit
pub mod Height
-- The meaning: ticks fall, fuel is enough, what a run keeps, types, the worst case
pub mod Remainder
pub mod TicksFall
pub mod Total
pub mod Keeping
pub mod Passes
pub mod WorstCase
pub mod Typing
pub mod ValidTable
-- The translation: code stands in its bytes, and running it does what the text means
pub mod Levels
pub mod Decoding
pub mod Expressions
pub mod Statements
pub mod Simulation
pub mod Fields
pub mod Sizes
pub mod Accepted
-- The compiler: what it accepts meets what the laws ask
pub mod WellTyped
pub mod WalkAccepts
pub mod Nesting
pub mod WalkNesting
pub mod Declarations
pub mod Promise
pub mod Records
pub mod Octets
pub mod Compiled
-- The readers: enough fuel, no look at places or the program's name, and every refusal in the list
pub mod Alike
pub mod Pieces
pub mod Fuel
pub mod PlacelessCode
pub mod PlacelessWalk
pub mod Placeless
pub mod LetterCase
pub mod Refusals
pub mod TokenPlaces
pub mod TreePlaces
pub mod ReadPlaces
pub mod WalkPlaces
pub mod Spelling
pub mod Listed
pub mod Lines
-- The demands, on one page
pub mod Demands
