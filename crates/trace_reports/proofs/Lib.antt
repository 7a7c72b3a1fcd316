pub mod RenderingFacts
